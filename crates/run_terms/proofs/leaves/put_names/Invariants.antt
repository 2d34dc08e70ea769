use Rattle.term_copies.specs.Copies.{IsExtended}
use Rattle.run_terms.specs.Leaves.{AreNames}
use Rattle.run_terms.proofs.leaves.put_names.Given as goal

abbrev pub invariant-loop-place : goal.invariant-loop-place
invariant-loop-place l = IsExtended l.fn.terms l.terms × AreNames l.terms l.first l.place l.ids.items
