use Rattle.gate_words.proofs.Chaining.{IsChaining}
use Rattle.gate_words.proofs.chains.chained.Given as goal

abbrev pub invariant-loop-place : goal.invariant-loop-place
invariant-loop-place l = IsChaining l.fn.circuit l.circuit l.cell l.fn.carry l.xs l.ys l.bits.items l.next l.place
