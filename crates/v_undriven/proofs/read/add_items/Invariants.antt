use Rattle.std.proofs.Common.{◌≡◌, drop}
use Rattle.std.specs.Prelude.{map}
use Rattle.verilog_designs.specs.Reads.{or_in}
use Rattle.v_value.specs.Scope.{scope_at}
use Rattle.v_syntax.specs.Source.{item_of}
use Rattle.v_flow.specs.Spans.{bits_in}
use Rattle.v_undriven.specs.Reads.{all_items_read}
use Rattle.v_undriven.specs.Premises.{AreNarrowReads}
use Rattle.v_undriven.proofs.read.add_items.Given as goal

abbrev pub invariant-loop-item : goal.invariant-loop-item
invariant-loop-item l = record {
  same : or_in (bits_in l.initial.found.items) (all_items_read (scope_at l.scope) (map item_of l.items))
      ≡ or_in (bits_in l.found.items) (all_items_read (scope_at l.scope) (map item_of (drop l.item-index l.items)));
  narrow : AreNarrowReads (scope_at l.scope) (map item_of (drop l.item-index l.items));
}
