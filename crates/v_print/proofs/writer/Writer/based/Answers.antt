use Rattle.v_print.proofs.Written.{then, based_written}
use Rattle.v_print.proofs.writer.Writer.based.Goals as goal

pub returns : goal.returns
returns c = then c.in_ok-part_from.ensures.reads (based_written c.args.text.now c.part_from.new.self c.piece.new.self c.in_ok-part_from.ensures.parted c.in_ok-piece.ensures.text c.in_ok-piece.ensures.last)
