use Rattle.std.proofs.Common.{◌≡◌, ◌+◌, drop}
use Rattle.verilog_meaning.specs.Statement.{targets_width}
use Rattle.v_value.specs.Scope.{scope_at}
use Rattle.v_statement.specs.Statements.{target_list}
use Rattle.v_flow.specs.Narrow.{HaveNarrowParts}
use Rattle.v_settle.proofs.width.+measuring.Given as goal

abbrev pub invariant-all_width-loop-target : goal.invariant-all_width-loop-target
invariant-all_width-loop-target l = record {
  sum : l.width + targets_width (scope_at l.scope) (target_list (drop l.target-index l.targets)) ≡ targets_width (scope_at l.scope) (target_list l.targets);
  narrow : HaveNarrowParts (scope_at l.scope) (target_list (drop l.target-index l.targets));
}
