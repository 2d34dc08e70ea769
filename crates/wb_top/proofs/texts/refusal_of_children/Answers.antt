use Rattle.std.proofs.Common.{codes, refl}
use Rattle.wb_top.specs.Emitted.{not_yet_kind}
use Rattle.wb_top.proofs.Lines.{noted, refused}
use Rattle.wb_top.proofs.texts.refusal_of_children.Goals as goal

pub returns : goal.returns
returns c =
    refused c.refusal_text_by.result not_yet_kind not_yet_kind (codes "child programs are not emitted yet") refl
    (noted (codes "child programs are not emitted yet") refl) c.refusal_text_by.ensures
