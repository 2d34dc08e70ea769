use Rattle.std.proofs.Common.{◌≡◌, ◌++◌, drop}
use Rattle.v_value.specs.Scope.{scope_at}
use Rattle.v_statement.specs.Statements.{target_list}
use Rattle.v_flow.specs.Narrow.{HaveNarrowParts}
use Rattle.v_drivers.specs.Sets.{targets_drivers}
use Rattle.v_drivers.specs.Lists.{sets_in}
use Rattle.v_drivers.proofs.link.+parts.Given as goal

abbrev pub invariant-add_targets-loop-target : goal.invariant-add_targets-loop-target
invariant-add_targets-loop-target l = record {
  same : sets_in l.initial.drivers.items ++ targets_drivers (scope_at l.scope) (target_list l.targets)
      ≡ sets_in l.drivers.items ++ targets_drivers (scope_at l.scope) (target_list (drop l.target-index l.targets));
  narrow : HaveNarrowParts (scope_at l.scope) (target_list (drop l.target-index l.targets));
}
