use Rattle.std.proofs.Common.{◌≡◌, max, drop}
use Rattle.std.specs.Prelude.{◌&&◌}
use Rattle.verilog_meaning.specs.Statement.{greatest_width, all_signed}
use Rattle.v_syntax.specs.Tree.{expressions_of}
use Rattle.v_value.specs.Scope.{scope_at}
use Rattle.v_value.specs.Narrow.{AreNarrow}
use Rattle.v_paths.proofs.full.joined_all.Given as goal

abbrev pub invariant-loop-label : goal.invariant-loop-label
invariant-loop-label l = record {
  width : max l.initial.context.width (greatest_width (scope_at l.scope) (expressions_of l.labels))
      ≡ max l.context.width (greatest_width (scope_at l.scope) (expressions_of (drop l.label-index l.labels)));
  signed : (l.initial.context.signed && all_signed (scope_at l.scope) (expressions_of l.labels))
      ≡ (l.context.signed && all_signed (scope_at l.scope) (expressions_of (drop l.label-index l.labels)));
  narrow : AreNarrow (scope_at l.scope) (expressions_of (drop l.label-index l.labels));
}
