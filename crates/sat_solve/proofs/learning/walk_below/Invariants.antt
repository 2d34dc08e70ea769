use Rattle.std.proofs.Common.{◌≤◌}
use Rattle.sat_solve.specs.State.{known_clauses}
use Rattle.sat_solve.specs.Walk.{IsWalked}
use Rattle.sat_solve.specs.Lesson.{IsForcedFrom}
use Rattle.sat_solve.proofs.learning.walk_below.Given as goal

abbrev pub invariant-loop-k : goal.invariant-loop-k
invariant-loop-k l = record {
  walked : IsWalked (known_clauses l.cnf l.log) l.trail.entries l.trail.vars l.k l.walk.marks l.walk.lits.items l.walk.numbers.items;
  point : IsForcedFrom l.trail.entries l.start l.back l.k l.walk.lits.items;
  within : l.back ≤ l.k;
}
