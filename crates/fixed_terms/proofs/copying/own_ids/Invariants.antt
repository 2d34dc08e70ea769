use Rattle.fixed_terms.specs.Fixed.{AreOwn}
use Rattle.fixed_terms.proofs.copying.own_ids.Given as goal

abbrev pub invariant-loop-place : goal.invariant-loop-place
invariant-loop-place l = AreOwn l.place l.ids.items
