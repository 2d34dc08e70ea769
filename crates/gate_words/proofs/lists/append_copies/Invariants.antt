use Rattle.std.proofs.Common.{◌≡◌, ◌++◌, replicate}
use Rattle.gate_words.proofs.lists.append_copies.Given as goal

abbrev pub invariant-loop-place : goal.invariant-loop-place
invariant-loop-place l = l.bits.items ≡ l.fn.bits.items ++ replicate l.place l.fill
