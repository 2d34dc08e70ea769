use Rattle.v_print.proofs.Texts.{text_read}
use Rattle.v_print.proofs.laws.a_text_is_read.Goals as goal

pub returns : goal.returns
returns c = text_read
