use Rattle.std.proofs.Common.{◌≡◌, ◌∙◌, ◌≤◌, length, ap, sym, subst, string_bytes}
use Rattle.model_meaning.specs.Invariant.{IsModel}
use Rattle.model_files.specs.Meaning as meaning
use Rattle.ila_file.specs.View.{model_view}
use Rattle.ila_build.specs.Sizes.{file_size}
use Rattle.ila_model.specs.Meaning.{model_from}
use Rattle.ila_model.specs.declared.parts.Parts.{Parts}
use Rattle.ila_whole.proofs.Reading.{parts_model}
use Rattle.ila_whole.proofs.Kept.{kept}
use Rattle.ila_whole.proofs.SortedParts.{never_none, of_some}
use Rattle.ila_whole.proofs.whole.whole_model.Goals as goal

pub unreachable-requires : goal.unreachable-requires
unreachable-requires c = never_none (model_view c.args.written.now) c.in-Ok.parts c.in_ok-sorted-in-Ok.field-0 c.in-Ok.ensures.sorted (c.requires.unbroken, c.requires.shaped) c.in_ok-sorted-in-Ok.ensures.well_sorted c.in-None.is

pub new-requires-in-Some : goal.new-requires-in-Some
new-requires-in-Some c =
    let m = model_view c.args.written.now in
    let parts : c.in-Some.sorted.parts ≡ c.in-Ok.parts = of_some c.in_ok-sorted-in-Ok.field-0 c.in-Some.sorted (λ s. s.parts ≡ c.in-Ok.parts) c.in_ok-sorted-in-Ok.ensures.parts c.in-Some.is in
    let read = ap (model_from (string_bytes c.in_ok-name.name)) parts ∙ parts_model m c.in-Ok.parts _ c.in-Ok.ensures.parts c.requires.unbroken c.in_ok-name.ensures.ok in
    record { kept = subst IsModel (sym read) (kept m c.requires.unbroken c.requires.shaped) }

pub returns-in-Some-clause-model : goal.returns-in-Some-clause-model
returns-in-Some-clause-model c =
    let parts : c.in-Some.sorted.parts ≡ c.in-Ok.parts = of_some c.in_ok-sorted-in-Ok.field-0 c.in-Some.sorted (λ s. s.parts ≡ c.in-Ok.parts) c.in_ok-sorted-in-Ok.ensures.parts c.in-Some.is in
    c.new-in-Some.ensures.model ∙ (ap (model_from (string_bytes c.in_ok-name.name)) parts ∙ parts_model (model_view c.args.written.now) c.in-Ok.parts _ c.in-Ok.ensures.parts c.requires.unbroken c.in_ok-name.ensures.ok)

pub returns-in-Some-clause-small : goal.returns-in-Some-clause-small
returns-in-Some-clause-small c =
    let parts : c.in-Some.sorted.parts ≡ c.in-Ok.parts = of_some c.in_ok-sorted-in-Ok.field-0 c.in-Some.sorted (λ s. s.parts ≡ c.in-Ok.parts) c.in_ok-sorted-in-Ok.ensures.parts c.in-Some.is in
    subst (λ (p : Parts). length p.terms.nodes ≤ file_size (model_view c.args.written.now)) (sym (c.new-in-Some.ensures.parts ∙ parts)) c.in-Ok.ensures.small
