use Rattle.emitted_names.proofs.Marking.{AreInRangeTo}
use Rattle.emitted_names.proofs.keeping.check_names.Given as goal

abbrev pub invariant-loop-place : goal.invariant-loop-place
invariant-loop-place l = AreInRangeTo l.terms l.place
