use Rattle.std.proofs.Common.{◌∙◌}
use Rattle.wb_top.proofs.Lines.{noted, refused}
use Rattle.wb_top.proofs.texts.refusal_by_rule.Goals as goal

pub returns : goal.returns
returns c =
    refused c.refusal_text_by.result _ _ _ (c.as_bytes.ensures.value ∙ c.design_kind.ensures) (noted _ (rw c.as_bytes-2.ensures.value c.design_note.ensures))
    c.refusal_text_by.ensures
