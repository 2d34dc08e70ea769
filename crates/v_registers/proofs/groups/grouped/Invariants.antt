use Rattle.std.proofs.Common.{◌≡◌, drop}
use Rattle.verilog_designs.specs.Reads.{or_in}
use Rattle.v_flow.specs.Spans.{bits_in}
use Rattle.v_registers.specs.Groups.{bits_under}
use Rattle.v_registers.proofs.groups.grouped.Given as goal

abbrev pub invariant-loop-span : goal.invariant-loop-span
invariant-loop-span l = bits_in l.spans ≡ or_in (bits_under l.table) (bits_in (drop l.span-index l.spans))
