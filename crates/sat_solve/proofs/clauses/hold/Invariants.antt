use Rattle.std.proofs.Common.{◌≡◌, take}
use Rattle.sat_solve.proofs.clauses.hold.Given as goal

abbrev pub invariant-loop-number : goal.invariant-loop-number
invariant-loop-number l = l.arena ≡ take l.number l.clauses
