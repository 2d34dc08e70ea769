use Rattle.sat_solve.specs.Walk.{AreUnmarked}
use Rattle.sat_solve.proofs.walk.are_unmarked.Given as goal

abbrev pub invariant-loop-k : goal.invariant-loop-k
invariant-loop-k l = AreUnmarked l.trail.entries l.marks l.from l.k
