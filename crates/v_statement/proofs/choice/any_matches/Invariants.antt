use Rattle.std.proofs.Common.{◌≡◌, ◌≤◌, drop}
use Rattle.verilog_meaning.specs.Statement.{any_matches, greatest_width}
use Rattle.v_value.specs.Scope.{scope_at, valuation_at}
use Rattle.v_syntax.specs.Tree.{expressions_of, case_kind_of}
use Rattle.v_value.specs.Narrow.{AreNarrow}
use Rattle.v_statement.proofs.choice.any_matches.Given as goal

abbrev pub invariant-loop-expression : goal.invariant-loop-expression
invariant-loop-expression l = record {
  same : any_matches (scope_at l.scope) (valuation_at l.values) (case_kind_of l.kind) l.width l.signed l.value (expressions_of l.expressions)
      ≡ any_matches (scope_at l.scope) (valuation_at l.values) (case_kind_of l.kind) l.width l.signed l.value (expressions_of (drop l.expression-index l.expressions));
  narrow : AreNarrow (scope_at l.scope) (expressions_of (drop l.expression-index l.expressions));
  within : greatest_width (scope_at l.scope) (expressions_of (drop l.expression-index l.expressions)) ≤ l.width;
}
