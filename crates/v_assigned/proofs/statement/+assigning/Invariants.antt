use Rattle.std.proofs.Common.{◌≡◌, true, drop}
use Rattle.std.specs.List.{list_any}
use Rattle.verilog_designs.specs.Drivers.{assigned_in_all, assigned_in_arms}
use Rattle.v_statement.specs.Statements.{statement_list}
use Rattle.v_statement.specs.Effects.{item_list}
use Rattle.v_value.specs.Scope.{scope_at}
use Rattle.v_assigned.specs.Names.{is_wrong}
use Rattle.v_assigned.specs.Assigned.{arms_names}
use Rattle.v_assigned.proofs.statement.+assigning.Given as goal

abbrev pub invariant-one_has_wrong-loop-statement : goal.invariant-one_has_wrong-loop-statement
invariant-one_has_wrong-loop-statement l =
    list_any (is_wrong l.names (scope_at l.scope) true) (assigned_in_all (statement_list l.statements)) ≡ list_any (is_wrong l.names (scope_at l.scope) true) (assigned_in_all (statement_list (drop l.statement-index l.statements)))

abbrev pub invariant-an_arm_has_wrong-loop-arm : goal.invariant-an_arm_has_wrong-loop-arm
invariant-an_arm_has_wrong-loop-arm l =
    list_any (is_wrong l.names (scope_at l.scope) true) (arms_names l.arms) ≡ list_any (is_wrong l.names (scope_at l.scope) true) (arms_names (drop l.arm-index l.arms))

abbrev pub invariant-an_item_has_wrong-loop-item : goal.invariant-an_item_has_wrong-loop-item
invariant-an_item_has_wrong-loop-item l =
    list_any (is_wrong l.names (scope_at l.scope) true) (assigned_in_arms (item_list l.items)) ≡ list_any (is_wrong l.names (scope_at l.scope) true) (assigned_in_arms (item_list (drop l.item-index l.items)))
