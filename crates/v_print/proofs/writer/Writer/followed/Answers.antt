use Rattle.v_print.proofs.Written.{then}
use Rattle.v_print.proofs.writer.Writer.followed.Goals as goal

pub returns : goal.returns
returns c = then c.in_ok-mark.ensures c.in_ok-blank.ensures.reads
