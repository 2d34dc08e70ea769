use Rattle.std.proofs.Common.{◌≡◌, ◌≤◌, drop, None}
use Rattle.verilog_meaning.specs.Statement.{items_width}
use Rattle.v_value.specs.Scope.{scope_at, valuation_at}
use Rattle.v_syntax.specs.Tree.{case_kind_of}
use Rattle.v_statement.specs.Effects.{item_list, AreValuesNarrow, matching_from}
use Rattle.v_statement.proofs.choice.matching.Given as goal

abbrev pub invariant-loop-index : goal.invariant-loop-index
invariant-loop-index l = record {
  same : matching_from (scope_at l.scope) (valuation_at l.values) (case_kind_of l.kind) l.width l.signed l.value 0 l.items None
      ≡ matching_from (scope_at l.scope) (valuation_at l.values) (case_kind_of l.kind) l.width l.signed l.value l.index (drop l.index l.items) l.default;
  narrow : AreValuesNarrow (scope_at l.scope) (drop l.index l.items);
  within : items_width (scope_at l.scope) (item_list (drop l.index l.items)) ≤ l.width;
}
