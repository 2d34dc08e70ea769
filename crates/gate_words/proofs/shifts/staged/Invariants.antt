use Rattle.gate_words.proofs.Moving.{IsStaging}
use Rattle.gate_words.proofs.shifts.staged.Given as goal

abbrev pub invariant-loop-place : goal.invariant-loop-place
invariant-loop-place l = IsStaging l.fn.circuit l.circuit l.direction l.fill l.xs l.ys l.place l.word.items
