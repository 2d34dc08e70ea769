use Rattle.std.specs.Prelude.{length}
use Rattle.wanted_terms.proofs.Marks.{IsRooting}
use Rattle.wanted_terms.proofs.reach.mark_roots.Given as goal

abbrev pub invariant-loop-place : goal.invariant-loop-place
invariant-loop-place l = IsRooting l.roots (length l.fn.marks.items) l.marks.items l.place
