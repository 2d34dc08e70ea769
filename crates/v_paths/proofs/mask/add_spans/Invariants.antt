use Rattle.std.proofs.Common.{◌≡◌, drop}
use Rattle.verilog_designs.specs.Reads.{or_in}
use Rattle.v_flow.specs.Spans.{bits_in}
use Rattle.v_masks.specs.Masks.{masked, spread}
use Rattle.v_paths.proofs.mask.add_spans.Given as goal

abbrev pub invariant-loop-span : goal.invariant-loop-span
invariant-loop-span l =
    or_in (masked l.initial.table) (spread (bits_in l.spans)) ≡ or_in (masked l.table) (spread (bits_in (drop l.span-index l.spans)))
