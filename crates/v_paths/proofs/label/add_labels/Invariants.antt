use Rattle.std.proofs.Common.{◌≡◌, drop}
use Rattle.verilog_designs.specs.Reads.{or_in, reads_in_all}
use Rattle.v_syntax.specs.Tree.{expressions_of}
use Rattle.v_value.specs.Scope.{scope_at}
use Rattle.v_value.specs.Narrow.{AreNarrow}
use Rattle.v_flow.specs.Spans.{bits_in}
use Rattle.v_paths.proofs.label.add_labels.Given as goal

abbrev pub invariant-loop-label : goal.invariant-loop-label
invariant-loop-label l = record {
  same : or_in (bits_in l.initial.outside.items) (reads_in_all (scope_at l.scope) (expressions_of l.labels))
      ≡ or_in (bits_in l.outside.items) (reads_in_all (scope_at l.scope) (expressions_of (drop l.label-index l.labels)));
  narrow : AreNarrow (scope_at l.scope) (expressions_of (drop l.label-index l.labels));
}
