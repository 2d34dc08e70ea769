use Rattle.std.proofs.Common.{◌≡◌, map, take}
use Rattle.sat_solve.proofs.KeptLemmas.{is_positive}
use Rattle.sat_solve.proofs.trail.Trail.assignment.Given as goal

abbrev pub invariant-loop-sign : goal.invariant-loop-sign
invariant-loop-sign l = l.values.items ≡ map is_positive (take l.sign-index l.sign-items)
