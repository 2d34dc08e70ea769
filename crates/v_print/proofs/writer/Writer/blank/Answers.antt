use Rattle.v_print.proofs.Written.{blank_written}
use Rattle.v_print.proofs.writer.Writer.blank.Goals as goal

pub returns-clause-reads : goal.returns-clause-reads
returns-clause-reads c = blank_written c.args.self.now c.piece.new.self c.in_ok-piece.ensures.text
