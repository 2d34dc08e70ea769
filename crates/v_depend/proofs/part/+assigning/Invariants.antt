use Rattle.std.proofs.Common.{◌≡◌, ◌+◌, ℕ, drop}
use Rattle.verilog_trees.specs.Syntax.{joined}
use Rattle.verilog_meaning.specs.Statement.{targets_width}
use Rattle.verilog_meaning.specs.Register.{is_set}
use Rattle.verilog_designs.specs.Reads.{BitSet}
use Rattle.v_value.specs.Scope.{scope_at}
use Rattle.v_statement.specs.Statements.{target_list}
use Rattle.v_masks.specs.Masks.{masked}
use Rattle.v_depend.specs.Left.{Assigns}
use Rattle.v_depend.specs.Tables.{all_changed}
use Rattle.v_depend.proofs.part.+assigning.Given as goal

abbrev pub invariant-add_all_changes-loop-i : goal.invariant-add_all_changes-loop-i
invariant-add_all_changes-loop-i l = record {
  rest : (j : ℕ) → is_set l.rest j ≡ is_set l.value (j + targets_width (scope_at l.scope) (target_list (drop l.i l.targets)));
  changes : (p : BitSet) → Assigns (masked l.unsettled) (scope_at l.scope) (joined (target_list (drop l.i l.targets))) l.value
      (all_changed l.initial.changes.items p) (all_changed l.changes.items p);
}
