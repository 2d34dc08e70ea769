use Rattle.v_print.proofs.Written.{then}
use Rattle.v_print.proofs.writer.Writer.between.Goals as goal

pub returns : goal.returns
returns c = then c.in_ok-blank.ensures.reads (then c.in_ok-mark.ensures c.in_ok-blank-2.ensures.reads)
