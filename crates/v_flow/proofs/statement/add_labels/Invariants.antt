use Rattle.std.proofs.Common.{◌≡◌, drop}
use Rattle.verilog_designs.specs.Reads.{or_in}
use Rattle.v_value.specs.Scope.{scope_at}
use Rattle.v_flow.specs.Spans.{bits_in}
use Rattle.v_flow.specs.Flow.{labels_read, AreNarrowItems}
use Rattle.v_flow.proofs.statement.add_labels.Given as goal

abbrev pub invariant-loop-item : goal.invariant-loop-item
invariant-loop-item l = record {
  same : or_in (bits_in l.initial.found.items) (labels_read (scope_at l.scope) l.items)
      ≡ or_in (bits_in l.found.items) (labels_read (scope_at l.scope) (drop l.item-index l.items));
  narrow : AreNarrowItems (scope_at l.scope) (drop l.item-index l.items);
}
