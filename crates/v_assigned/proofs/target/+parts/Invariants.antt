use Rattle.std.proofs.Common.{◌≡◌, drop}
use Rattle.std.specs.List.{list_any}
use Rattle.verilog_designs.specs.Drivers.{targets_names}
use Rattle.v_statement.specs.Statements.{target_list}
use Rattle.v_value.specs.Scope.{scope_at}
use Rattle.v_assigned.specs.Names.{is_wrong}
use Rattle.v_assigned.proofs.target.+parts.Given as goal

abbrev pub invariant-one_assigns_wrong-loop-target : goal.invariant-one_assigns_wrong-loop-target
invariant-one_assigns_wrong-loop-target l =
    list_any (is_wrong l.names (scope_at l.scope) l.in_block) (targets_names (target_list l.targets))
    ≡ list_any (is_wrong l.names (scope_at l.scope) l.in_block) (targets_names (target_list (drop l.target-index l.targets)))
