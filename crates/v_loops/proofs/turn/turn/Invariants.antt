use Rattle.std.proofs.Common.{drop}
use Rattle.std.specs.Prelude.{false}
use Rattle.verilog_designs.specs.Reads.{no_bits}
use Rattle.v_value.specs.Scope.{scope_at}
use Rattle.v_flow.specs.Spans.{bits_in}
use Rattle.v_masks.specs.Masks.{masked}
use Rattle.v_order.specs.Lists.{statements_in}
use Rattle.v_loops.specs.Turns.{AreFitToRun}
use Rattle.v_loops.proofs.Adding.{IsLeftToAdd}
use Rattle.v_loops.proofs.turn.turn.Given as goal

abbrev pub invariant-loop-driver : goal.invariant-loop-driver
invariant-loop-driver l = record {
  adds : IsLeftToAdd false (masked l.table) (scope_at l.scope) (statements_in l.drivers) (statements_in (drop l.driver-index l.drivers)) no_bits (bits_in l.found.items);
  fit : AreFitToRun (scope_at l.scope) (statements_in (drop l.driver-index l.drivers));
}
