use Rattle.gate_words.proofs.Constants.{IsConstant}
use Rattle.gate_words.proofs.lists.constant.Given as goal

abbrev pub invariant-loop-place : goal.invariant-loop-place
invariant-loop-place l = IsConstant l.fn.number l.width l.place l.rest l.bits.items
