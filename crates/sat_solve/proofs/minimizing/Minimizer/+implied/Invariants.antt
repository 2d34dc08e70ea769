use Rattle.std.proofs.Common.{◌+◌, ◌*◌}
use Rattle.sat_solve.proofs.minimizing.Minimizer.+implied.Given as goal

abbrev pub decreases-are_implied : goal.decreases-are_implied
decreases-are_implied l = 2 * l.depth + 1

abbrev pub decreases-is_known : goal.decreases-is_known
decreases-is_known l = 2 * l.depth
