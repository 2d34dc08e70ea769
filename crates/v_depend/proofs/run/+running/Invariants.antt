use Rattle.std.proofs.Common.{drop}
use Rattle.std.specs.Prelude.{◌↔◌, Option}
use Rattle.verilog_trees.specs.Syntax as pure
use Rattle.verilog_designs.specs.Reads.{BitSet}
use Rattle.verilog_designs.specs.Dependence.{Bit, AfterAll}
use Rattle.v_syntax.specs.Tree.{or_empty}
use Rattle.v_statement.specs.Statements.{statement_list, arm_list}
use Rattle.v_statement.specs.Effects.{item_list}
use Rattle.v_value.specs.Scope.{scope_at}
use Rattle.v_flow.specs.Spans.{existing}
use Rattle.v_masks.specs.Masks.{masked}
use Rattle.v_paths.specs.Premises.{HasNoMemory}
use Rattle.v_depend.specs.Resting.{IsThere, at_first}
use Rattle.v_depend.specs.Running.{AreFit, AreFitItems, Tells, AddsArms}
use Rattle.v_depend.proofs.run.+running.Given as goal

abbrev pub invariant-in_turn-loop-statement : goal.invariant-in_turn-loop-statement
invariant-in_turn-loop-statement l = record {
  rests : (u : Bit) → IsThere (scope_at l.scope) u
      → AfterAll (scope_at l.scope) (at_first (masked l.initial.unsettled)) (statement_list l.statements) u u
      ↔ AfterAll (scope_at l.scope) (at_first (masked l.unsettled)) (statement_list (drop l.statement-index l.statements)) u u;
  fit : AreFit (scope_at l.scope) (drop l.statement-index l.statements);
  variables : HasNoMemory (scope_at l.scope) (existing (scope_at l.scope) (masked l.unsettled));
}

abbrev pub invariant-ladder-loop-i : goal.invariant-ladder-loop-i
invariant-ladder-loop-i l =
    (y : Option pure.Statement) → Tells (masked l.unsettled) (scope_at l.scope) (or_empty y) (masked l.initial.assigned) (masked l.initial.left)
    → Tells (masked l.unsettled) (scope_at l.scope) (or_empty (arm_list (drop l.i l.arms) y)) (masked l.assigned) (masked l.left)

abbrev pub invariant-bodies-loop-item : goal.invariant-bodies-loop-item
invariant-bodies-loop-item l = record {
  adds : (d o : BitSet) → AddsArms (masked l.unsettled) (scope_at l.scope) (item_list (drop l.item-index l.items)) (masked l.assigned) (masked l.left) d o
      → AddsArms (masked l.unsettled) (scope_at l.scope) (item_list l.items) (masked l.initial.assigned) (masked l.initial.left) d o;
  fit : AreFitItems (scope_at l.scope) (drop l.item-index l.items);
}
