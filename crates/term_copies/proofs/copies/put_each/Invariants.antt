use Rattle.term_copies.specs.Copies.{IsExtended, AreCopiesOf}
use Rattle.term_copies.proofs.copies.put_each.Given as goal

abbrev pub invariant-loop-k : goal.invariant-loop-k
invariant-loop-k l = IsExtended l.fn.terms l.terms × AreCopiesOf l.k l.terms l.source l.leaves l.copies.items
