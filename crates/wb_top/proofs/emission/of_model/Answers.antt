use Rattle.std.proofs.Common.{◌∙◌, List, ℕ, string_bytes, subst, sym}
use Rattle.ila_model.specs.Model.{model_of}
use Rattle.wb_top.specs.Texts.{IsRefusalBy}
use Rattle.wb_top.specs.Emitted.{not_yet_kind}
use Rattle.wb_top.proofs.EmittedBy.{emitted_by, not_yet}
use Rattle.wb_top.proofs.emission.of_model.Goals as goal

pub returns-in_ok-text-in-Ok-clause-told : goal.returns-in_ok-text-in-Ok-clause-told
returns-in_ok-text-in-Ok-clause-told c =
    emitted_by (model_of c.args.model.now) c.args.map_only (string_bytes c.in-Ok.texts.verilog) (string_bytes c.in-Ok.texts.map) c.plain.result.text.items c.plain.result.status
    c.in-Ok.ensures.0 c.in-Ok.ensures.1 c.in-Ok.ensures.2 (c.plain.ensures.text ∙ c.in_ok-text-in-Ok.ensures) c.plain.ensures.status

pub returns-in_ok-text-in-Err-NotYet-clause-told : goal.returns-in_ok-text-in-Err-NotYet-clause-told
returns-in_ok-text-in-Err-NotYet-clause-told c =
    not_yet (model_of c.args.model.now) c.args.map_only c.plain-in-Err-NotYet.result.text.items c.plain-in-Err-NotYet.result.status (rw c.in-Err-NotYet.field-0-is at c.in-Err-NotYet.ensures)
    (subst (λ (t : List ℕ). IsRefusalBy not_yet_kind t) (sym c.plain-in-Err-NotYet.ensures.text) c.in_ok-text-in-Err-NotYet.ensures) c.plain-in-Err-NotYet.ensures.status
