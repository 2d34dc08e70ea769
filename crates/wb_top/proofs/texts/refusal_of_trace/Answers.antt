use Rattle.std.proofs.Common.{◌∙◌}
use Rattle.wb_top.proofs.Lines.{is_note, refused}
use Rattle.wb_top.proofs.texts.refusal_of_trace.Goals as goal

pub returns : goal.returns
returns c =
    refused c.refusal_text_by.result _ _ _ (c.as_bytes.ensures.value ∙ c.name-rule.ensures) (is_note _ c.as_bytes-2.ensures.some c.as_bytes-2.ensures.short c.as_bytes-2.ensures.printable)
    c.refusal_text_by.ensures
