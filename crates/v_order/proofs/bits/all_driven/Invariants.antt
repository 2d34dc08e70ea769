use Rattle.std.proofs.Common.{◌≡◌, drop}
use Rattle.verilog_designs.specs.Reads.{or_in}
use Rattle.v_value.specs.Scope.{scope_at}
use Rattle.v_flow.specs.Spans.{bits_in}
use Rattle.v_drivers.specs.Premises.{AreNarrowBlocks}
use Rattle.v_order.specs.Lists.{statements_in}
use Rattle.v_order.proofs.Driven.{driven-set}
use Rattle.v_order.proofs.bits.all_driven.Given as goal

abbrev pub invariant-loop-driver : goal.invariant-loop-driver
invariant-loop-driver l = record {
  same : driven-set (scope_at l.scope) (statements_in l.drivers) ≡ or_in (bits_in l.found.items) (driven-set (scope_at l.scope) (statements_in (drop l.driver-index l.drivers)));
  narrow : AreNarrowBlocks (scope_at l.scope) (statements_in (drop l.driver-index l.drivers));
}
