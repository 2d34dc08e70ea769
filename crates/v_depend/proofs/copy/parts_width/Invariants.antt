use Rattle.std.proofs.Common.{◌≡◌, ◌+◌, drop}
use Rattle.verilog_meaning.specs.Expression.{widths_of}
use Rattle.v_syntax.specs.Tree.{expressions_of}
use Rattle.v_value.specs.Scope.{scope_at}
use Rattle.v_value.specs.Narrow.{AreNarrow}
use Rattle.v_depend.proofs.copy.parts_width.Given as goal

abbrev pub invariant-loop-part : goal.invariant-loop-part
invariant-loop-part l = record {
  same : l.width + widths_of (scope_at l.scope) (expressions_of (drop l.part-index l.parts)) ≡ widths_of (scope_at l.scope) (expressions_of l.parts);
  narrow : AreNarrow (scope_at l.scope) (expressions_of (drop l.part-index l.parts));
}
