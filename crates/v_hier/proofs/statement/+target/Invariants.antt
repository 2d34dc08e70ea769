use Rattle.std.proofs.Common.{◌≡◌, drop}
use Rattle.v_hier.specs.Reading.{knows, targets_known}
use Rattle.v_hier.proofs.statement.+target.Given as goal

abbrev pub invariant-are_targets_known-loop-target : goal.invariant-are_targets_known-loop-target
invariant-are_targets_known-loop-target l = targets_known (knows l.names) l.targets ≡ targets_known (knows l.names) (drop l.target-index l.targets)
