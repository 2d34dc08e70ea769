use Rattle.std.specs.Prelude.{MatchOption}
use Rattle.sat_check.specs.Walk.{AreMarked, IsOnlyLeft}
use Rattle.sat_check.proofs.walk.left_of.Given as goal

abbrev pub invariant-loop-literal : goal.invariant-loop-literal
invariant-loop-literal l =
    MatchOption l.left (AreMarked l.marks l.clause l.literal-index) (IsOnlyLeft l.marks l.clause l.literal-index)
