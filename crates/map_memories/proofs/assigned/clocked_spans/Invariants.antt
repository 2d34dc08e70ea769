use Rattle.std.proofs.Common.{◌≡◌, drop}
use Rattle.std.specs.Prelude.{map}
use Rattle.verilog_designs.specs.Reads.{or_in}
use Rattle.verilog_meaning.specs.Register.{clocked_blocks, counts}
use Rattle.v_syntax.specs.Source.{item_of}
use Rattle.v_value.specs.Scope.{scope_at}
use Rattle.v_flow.specs.Spans.{bits_in}
use Rattle.v_drivers.specs.Premises.{AreNarrowBlocks}
use Rattle.map_memories.proofs.assigned.clocked_spans.Given as goal

abbrev pub invariant-loop-item : goal.invariant-loop-item
invariant-loop-item l = record {
  same : counts (scope_at l.scope) (clocked_blocks (map item_of l.items))
      ≡ or_in (bits_in l.found.items) (counts (scope_at l.scope) (clocked_blocks (map item_of (drop l.item-index l.items))));
  narrow : AreNarrowBlocks (scope_at l.scope) (clocked_blocks (map item_of (drop l.item-index l.items)));
}
