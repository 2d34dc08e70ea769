use Rattle.std.specs.Prelude.{length}
use Rattle.emitted_names.proofs.Marking.{AreMarksTo}
use Rattle.emitted_names.proofs.keeping.marks_at.Given as goal

abbrev pub invariant-loop-place : goal.invariant-loop-place
invariant-loop-place l = AreMarksTo (length l.terms.nodes) l.wanted l.place l.marks.items
