use Rattle.std.proofs.Common.{◌≡◌, drop}
use Rattle.verilog_designs.specs.Reads.{or_in, but_not_in}
use Rattle.v_flow.specs.Spans.{bits_in}
use Rattle.v_masks.specs.Masks.{masked}
use Rattle.v_paths.proofs.mask.add_left.Given as goal

abbrev pub invariant-loop-span : goal.invariant-loop-span
invariant-loop-span l =
    or_in (bits_in l.initial.found.items) (but_not_in (bits_in l.spans) (masked l.table))
    ≡ or_in (bits_in l.found.items) (but_not_in (bits_in (drop l.span-index l.spans)) (masked l.table))
