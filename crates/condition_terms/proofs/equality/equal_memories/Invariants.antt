use Rattle.term_copies.specs.Copies.{IsExtended}
use Rattle.condition_terms.specs.Told.{Tells}
use Rattle.condition_terms.proofs.Comparing.{AreAlikeBelow}
use Rattle.condition_terms.proofs.equality.equal_memories.Given as goal

abbrev pub invariant-loop-address : goal.invariant-loop-address
invariant-loop-address l = IsExtended l.fn.terms l.terms × Tells l.terms l.all.0 (AreAlikeBelow l.fn.terms l.left.0 l.right.0 l.address)
