use Rattle.std.proofs.Common.{◌≡◌, drop}
use Rattle.verilog_designs.specs.Reads.{but_not_in}
use Rattle.v_flow.specs.Spans.{bits_in}
use Rattle.v_masks.specs.Masks.{masked, spread}
use Rattle.v_loops.proofs.span.remove.Given as goal

abbrev pub invariant-loop-span : goal.invariant-loop-span
invariant-loop-span l =
    but_not_in (masked l.initial.table) (spread (bits_in l.spans)) ≡ but_not_in (masked l.table) (spread (bits_in (drop l.span-index l.spans)))
