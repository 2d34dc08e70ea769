use Rattle.emitted_names.proofs.Marking.{AreToldTo}
use Rattle.emitted_names.proofs.keeping.check_nodes.Given as goal

abbrev pub invariant-loop-place : goal.invariant-loop-place
invariant-loop-place l = AreToldTo l.terms l.place
