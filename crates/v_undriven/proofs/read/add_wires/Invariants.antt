use Rattle.std.proofs.Common.{◌≡◌, drop}
use Rattle.verilog_designs.specs.Reads.{or_in}
use Rattle.v_value.specs.Scope.{scope_at}
use Rattle.v_flow.specs.Spans.{bits_in}
use Rattle.v_drivers.specs.Lists.{wire_links}
use Rattle.v_undriven.specs.Reads.{links_read}
use Rattle.v_undriven.specs.Premises.{AreNarrowValues}
use Rattle.v_undriven.proofs.read.add_wires.Given as goal

abbrev pub invariant-loop-wire : goal.invariant-loop-wire
invariant-loop-wire l = record {
  same : or_in (bits_in l.initial.found.items) (links_read (scope_at l.scope) (wire_links l.wires))
      ≡ or_in (bits_in l.found.items) (links_read (scope_at l.scope) (wire_links (drop l.wire-index l.wires)));
  narrow : AreNarrowValues (scope_at l.scope) (wire_links (drop l.wire-index l.wires));
}
