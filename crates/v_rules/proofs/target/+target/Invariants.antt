use Rattle.std.proofs.Common.{◌≡◌, drop}
use Rattle.v_value.specs.Scope.{scope_at}
use Rattle.v_size.specs.Rule.{position_of}
use Rattle.v_rules.specs.Targets.{no_part, targets_from}
use Rattle.v_rules.proofs.target.+target.Given as goal

abbrev pub invariant-judged_targets-loop-target : goal.invariant-judged_targets-loop-target
invariant-judged_targets-loop-target l = targets_from (scope_at l.names.scope.now) (position_of l.position) no_part l.targets ≡ targets_from (scope_at l.names.scope.now) (position_of l.position) l.all (drop l.target-index l.targets)
