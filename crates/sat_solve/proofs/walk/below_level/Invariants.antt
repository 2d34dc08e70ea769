use Rattle.sat_solve.specs.Decisions.{IsUndecided}
use Rattle.sat_solve.proofs.walk.below_level.Given as goal

abbrev pub invariant-loop-k : goal.invariant-loop-k
invariant-loop-k l = IsUndecided l.trail.entries 0 l.k
