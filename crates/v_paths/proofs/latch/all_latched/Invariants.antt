use Rattle.std.proofs.Common.{◌≡◌, drop}
use Rattle.verilog_designs.specs.Reads.{or_in, but_not_in}
use Rattle.v_flow.specs.Spans.{bits_in}
use Rattle.v_masks.specs.Masks.{masked}
use Rattle.v_paths.proofs.latch.all_latched.Given as goal

abbrev pub invariant-loop-span : goal.invariant-loop-span
invariant-loop-span l =
    but_not_in (bits_in l.assigned) (but_not_in (masked l.own) (masked l.read))
    ≡ or_in (bits_in l.found.items) (but_not_in (bits_in (drop l.span-index l.assigned)) (but_not_in (masked l.own) (masked l.read)))
