use Rattle.std.proofs.Common.{◌≡◌, ◌≤◌, ℕ, drop}
use Rattle.std.specs.Prelude.{◌||◌}
use Rattle.verilog_meaning.specs.Statement.{greatest_width}
use Rattle.v_syntax.specs.Tree.{expressions_of}
use Rattle.v_value.specs.Scope.{scope_at}
use Rattle.v_value.specs.Narrow.{AreNarrow}
use Rattle.v_paths.specs.Cases.{one_label_is, has_number}
use Rattle.v_paths.proofs.full.add_values.Given as goal

abbrev pub invariant-loop-label : goal.invariant-loop-label
invariant-loop-label l = record {
  same : (x : ℕ) → (has_number l.initial.values x || one_label_is (scope_at l.scope) l.context.width l.context.signed x l.labels)
      ≡ (has_number l.values x || one_label_is (scope_at l.scope) l.context.width l.context.signed x (drop l.label-index l.labels));
  narrow : AreNarrow (scope_at l.scope) (expressions_of (drop l.label-index l.labels));
  within : greatest_width (scope_at l.scope) (expressions_of (drop l.label-index l.labels)) ≤ l.context.width;
}
