use Rattle.v_print.specs.Writes.{Writes}
use Rattle.v_print.proofs.writer.Writer.line.Given as goal

abbrev pub invariant-loop-level : goal.invariant-loop-level
invariant-loop-level l = Writes l.initial.self l.self (λ r. r)
