use Rattle.std.proofs.Common.{◌<◌, ◌∙◌, ℕ, List, length, subst, sym}
use Rattle.wb_top.proofs.Lines.{is_note, refused}
use Rattle.wb_top.proofs.texts.refusal_there.Goals as goal

pub returns : goal.returns
returns c =
    let some = subst (λ (t : List ℕ). 0 < length t) (sym c.as_bytes-2.ensures.text) c.in_ok-note.ensures in
    refused c.refusal_text_by.result _ _ _ (c.as_bytes.ensures.value ∙ c.design_kind.ensures) (is_note _ some c.as_bytes-2.ensures.short c.as_bytes-2.ensures.printable)
    c.refusal_text_by.ensures
