use Rattle.std.proofs.Common.{◌≡◌, max, drop}
use Rattle.verilog_meaning.specs.Statement.{greatest_width}
use Rattle.v_value.specs.Scope.{scope_at}
use Rattle.v_syntax.specs.Tree.{expressions_of}
use Rattle.v_value.specs.Narrow.{AreNarrow}
use Rattle.v_write.proofs.choosing.greatest_width.Given as goal

abbrev pub invariant-loop-expression : goal.invariant-loop-expression
invariant-loop-expression l = record {
  same : max l.initial.width (greatest_width (scope_at l.scope) (expressions_of l.expressions))
      ≡ max l.width (greatest_width (scope_at l.scope) (expressions_of (drop l.expression-index l.expressions)));
  narrow : AreNarrow (scope_at l.scope) (expressions_of (drop l.expression-index l.expressions));
}
