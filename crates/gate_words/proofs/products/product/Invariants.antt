use Rattle.gate_words.proofs.Multiplying.{IsMultiplying}
use Rattle.gate_words.proofs.products.product.Given as goal

abbrev pub invariant-loop-place : goal.invariant-loop-place
invariant-loop-place l = IsMultiplying l.fn.circuit l.circuit l.xs l.ys l.sum.items l.place
