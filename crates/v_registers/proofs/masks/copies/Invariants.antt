use Rattle.std.proofs.Common.{◌≡◌, replicate}
use Rattle.v_registers.proofs.masks.copies.Given as goal

abbrev pub invariant-loop-k : goal.invariant-loop-k
invariant-loop-k l = l.numbers.items ≡ replicate l._k l.number
