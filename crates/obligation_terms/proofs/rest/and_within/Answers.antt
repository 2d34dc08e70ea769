use Rattle.std.proofs.Common.{◌∙◌}
use Rattle.wb_values.specs.Value.{truth, as_number}
use Rattle.model_meaning.specs.Term.{val}
use Rattle.wb_terms.specs.Graph.{tree}
use Rattle.condition_terms.proofs.Forming.{IsTermOf-kept}
use Rattle.obligation_terms.specs.Rest.{IsWithin}
use Rattle.obligation_terms.proofs.Resting.{width_fits, within_all, below_word, and_always, and_one}
use Rattle.obligation_terms.proofs.rest.and_within.Goals as goal

pub mask-requires : goal.mask-requires
mask-requires c = width_fits (tree c.args.terms.now c.args.id.0) c.args.width c.requires.sort.sort

pub returns-then-bits-mask-clause-told : goal.returns-then-bits-mask-clause-told
returns-then-bits-mask-clause-told c =
    let g = c.args.terms.now in
    let id = c.args.id.0 in
    let w = c.args.width in
    and_always c.args.all.0 (λ v. IsWithin c.args.bits (as_number (val (tree g id) v))) c.requires.all
    (λ v f. within_all w (as_number (val (tree g id) v)) c.args.bits (c.if-bits-mask.true ∙ c.mask.ensures) (below_word (val (tree g id) v) w (c.requires.sort.is_of v f)))

pub both-requires-clause-left : goal.both-requires-clause-left
both-requires-clause-left c = IsTermOf-kept c.args.all.0 truth c.in_ok-here.ensures.extended c.requires.all

pub returns-clause-told : goal.returns-clause-told
returns-clause-told c =
    let g = c.args.terms.now in
    and_one c.args.all.0 c.in_ok-here.here.0 c.in_ok-id.id.0 (λ v. IsWithin c.args.bits (as_number (val (tree g c.args.id.0) v))) c.in_ok-here.ensures.extended c.in_ok-id.ensures.extended
    c.requires.all c.in_ok-here.ensures.told c.in_ok-id.ensures.value
