use Rattle.std.proofs.Common.{◌≡◌, ◌++◌, drop}
use Rattle.gate_words.proofs.lists.append.Given as goal

abbrev pub invariant-loop-bit : goal.invariant-loop-bit
invariant-loop-bit l = l.bits.items ++ drop l.bit-index l.more ≡ l.fn.bits.items ++ l.more
