use Rattle.v_print.proofs.Written.{then, line_written, nothing_written}
use Rattle.v_print.proofs.writer.Writer.line.Goals as goal

pub loop-level-init : goal.loop-level-init
loop-level-init c = nothing_written c.piece.new.self

pub loop-level-preserved : goal.loop-level-preserved
loop-level-preserved c = then c.loop-level.invariant (then c.in_ok-blank.ensures.reads c.in_ok-blank-2.ensures.reads)

pub returns : goal.returns
returns c = then (line_written c.args.self.now c.piece.new.self c.in_ok-piece.ensures.text) c.loop-level.invariant
