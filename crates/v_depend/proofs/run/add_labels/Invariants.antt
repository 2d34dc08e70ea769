use Rattle.std.proofs.Common.{◌≡◌, drop}
use Rattle.verilog_designs.specs.Reads.{or_in, items_read}
use Rattle.v_value.specs.Scope.{scope_at}
use Rattle.v_statement.specs.Effects.{item_list}
use Rattle.v_flow.specs.Spans.{bits_in}
use Rattle.v_flow.specs.Flow.{AreNarrowItems}
use Rattle.v_depend.proofs.run.add_labels.Given as goal

abbrev pub invariant-loop-item : goal.invariant-loop-item
invariant-loop-item l = record {
  same : or_in (bits_in l.initial.found.items) (items_read (scope_at l.scope) (item_list l.items))
      ≡ or_in (bits_in l.found.items) (items_read (scope_at l.scope) (item_list (drop l.item-index l.items)));
  narrow : AreNarrowItems (scope_at l.scope) (drop l.item-index l.items);
}
