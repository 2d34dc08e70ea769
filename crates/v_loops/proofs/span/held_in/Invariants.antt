use Rattle.std.proofs.Common.{◌≡◌, drop}
use Rattle.verilog_designs.specs.Reads.{or_in, and_in}
use Rattle.v_flow.specs.Spans.{bits_in}
use Rattle.v_masks.specs.Masks.{masked}
use Rattle.v_loops.proofs.span.held_in.Given as goal

abbrev pub invariant-loop-span : goal.invariant-loop-span
invariant-loop-span l =
    and_in (bits_in l.spans) (masked l.table) ≡ or_in (bits_in l.found.items) (and_in (bits_in (drop l.span-index l.spans)) (masked l.table))
