use Rattle.std.proofs.Common.{◌≡◌, ◌+◌, ◌≤◌, drop}
use Rattle.verilog_meaning.specs.Expression.{widths_of}
use Rattle.v_value.specs.Scope.{scope_at}
use Rattle.v_syntax.specs.Tree.{expressions_of}
use Rattle.v_value.specs.Narrow.{AreNarrow}
use Rattle.v_narrow.proofs.width.width_together.Given as goal

abbrev pub invariant-loop-part : goal.invariant-loop-part
invariant-loop-part l = record {
  total : widths_of (scope_at l.scope) (expressions_of l.parts) ≡ l.width + widths_of (scope_at l.scope) (expressions_of (drop l.part-index l.parts));
  narrow : AreNarrow (scope_at l.scope) (expressions_of (drop l.part-index l.parts));
  at_most_128 : l.width ≤ 128;
}
