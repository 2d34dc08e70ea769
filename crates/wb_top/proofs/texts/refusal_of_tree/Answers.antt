use Rattle.std.proofs.Common.{◌<◌, ℕ, List, length, subst, sym, refl}
use Rattle.check_cases.specs.Kinds.{tree_kind}
use Rattle.wb_top.proofs.Lines.{is_note, refused}
use Rattle.wb_top.proofs.texts.refusal_of_tree.Goals as goal

pub returns : goal.returns
returns c =
    let some = subst (λ (t : List ℕ). 0 < length t) (sym c.as_bytes.ensures.text) c.in_ok-note.ensures in
    refused c.refusal_text_by.result tree_kind tree_kind c.as_bytes.result.now refl
    (is_note _ some c.as_bytes.ensures.short c.as_bytes.ensures.printable) c.refusal_text_by.ensures
