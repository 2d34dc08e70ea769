use Rattle.fixed_terms.specs.Fixed.{AreKnown}
use Rattle.fixed_terms.proofs.known.known_where_false.Given as goal

abbrev pub invariant-loop-done : goal.invariant-loop-done
invariant-loop-done l = AreKnown l.terms l.id.0 l.known.items
