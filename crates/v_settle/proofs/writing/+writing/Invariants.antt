use Rattle.std.proofs.Common.{◌≡◌, ◌+◌, drop}
use Rattle.verilog_meaning.specs.Expression.{no_values}
use Rattle.verilog_meaning.specs.Statement.{all_places, targets_width}
use Rattle.v_operators.specs.Meaning.{Grows}
use Rattle.v_value.specs.Scope.{scope_at}
use Rattle.v_statement.specs.Statements.{target_list}
use Rattle.v_lower.specs.Table.{images_at}
use Rattle.v_settle.specs.Drivers.{AreBitsWritten}
use Rattle.v_settle.proofs.writing.+writing.Given as goal

abbrev pub invariant-write_all-loop-i : goal.invariant-write_all-loop-i
invariant-write_all-loop-i l = record {
  grows : Grows l.initial.terms l.terms;
  next : l.next ≡ l.low + targets_width (scope_at l.scope) (target_list (drop l.i l.targets));
  written : AreBitsWritten (scope_at l.scope) (images_at l.initial.table) l.initial.terms (all_places (scope_at l.scope) no_values (target_list (drop l.i l.targets)))
      (targets_width (scope_at l.scope) (target_list (drop l.i l.targets))) l.number.0 l.width l.low (images_at l.table) l.terms;
}
