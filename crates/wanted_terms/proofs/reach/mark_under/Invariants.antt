use Rattle.wanted_terms.proofs.Marks.{IsMarking}
use Rattle.wanted_terms.proofs.reach.mark_under.Given as goal

abbrev pub invariant-loop-done : goal.invariant-loop-done
invariant-loop-done l = IsMarking l.terms l.roots l.marks.items l.done
