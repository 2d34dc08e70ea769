use Rattle.fixed_terms.specs.Fixed.{AreFixes, AllFollow}
use Rattle.fixed_terms.proofs.fixes.fixes_of.Given as goal

abbrev pub invariant-loop-place : goal.invariant-loop-place
invariant-loop-place l = AreFixes l.terms l.fixes.items × AllFollow l.terms l.fn.id.0 l.fixes.items
