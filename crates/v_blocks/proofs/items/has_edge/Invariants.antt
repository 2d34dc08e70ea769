use Rattle.std.proofs.Common.{◌≡◌, drop, map}
use Rattle.verilog_meaning.specs.Register.{has_edge}
use Rattle.v_blocks.specs.Blocks.{event_of}
use Rattle.v_blocks.proofs.items.has_edge.Given as goal

abbrev pub invariant-loop-event : goal.invariant-loop-event
invariant-loop-event l = has_edge (map event_of l.events) ≡ has_edge (map event_of (drop l.event-index l.events))
