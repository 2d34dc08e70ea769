use Rattle.term_copies.specs.Copies.{IsExtended}
use Rattle.condition_terms.specs.Told.{Tells}
use Rattle.condition_terms.proofs.Comparing.{HasBelow}
use Rattle.condition_terms.proofs.equality.has_words.Given as goal

abbrev pub invariant-loop-address : goal.invariant-loop-address
invariant-loop-address l = IsExtended l.fn.terms l.terms × Tells l.terms l.all.0 (HasBelow l.fn.terms l.fn.id.0 l.wanted l.address)
