use Rattle.std.proofs.Common.{◌≡◌, drop}
use Rattle.verilog_designs.specs.Reads.{or_in}
use Rattle.v_flow.specs.Spans.{bits_in}
use Rattle.v_loops.proofs.span.append.Given as goal

abbrev pub invariant-loop-span : goal.invariant-loop-span
invariant-loop-span l = or_in (bits_in l.initial.found.items) (bits_in l.spans) ≡ or_in (bits_in l.found.items) (bits_in (drop l.span-index l.spans))
