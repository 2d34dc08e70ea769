use Rattle.v_print.proofs.Written.{then, system_written}
use Rattle.v_print.proofs.writer.Writer.system.Goals as goal

pub returns : goal.returns
returns c = then c.in_ok-part_from.ensures.reads (system_written c.args.text.now c.part_from.new.self c.piece.new.self c.in_ok-part_from.ensures.parted c.in_ok-piece.ensures.text c.in_ok-piece.ensures.last)
