use Rattle.std.proofs.Common.{◌≡◌, drop}
use Rattle.verilog_designs.specs.Reads.{or_in}
use Rattle.v_value.specs.Scope.{scope_at}
use Rattle.v_flow.specs.Spans.{bits_in}
use Rattle.v_masks.specs.Masks.{masked, spread}
use Rattle.v_order.specs.Lists.{statements_in}
use Rattle.v_order.proofs.Driven.{driven-set}
use Rattle.v_loops.specs.Turns.{AreFitToRun}
use Rattle.v_loops.proofs.Sharing.{IsLeftToKnow}
use Rattle.v_loops.proofs.shared.add_all.Given as goal

abbrev pub invariant-loop-driver : goal.invariant-loop-driver
invariant-loop-driver l = record {
  listed : or_in (bits_in l.initial.driven.items) (driven-set (scope_at l.scope) (statements_in l.drivers))
      ≡ or_in (bits_in l.driven.items) (driven-set (scope_at l.scope) (statements_in (drop l.driver-index l.drivers)));
  tabled : or_in (masked l.initial.once) (spread (driven-set (scope_at l.scope) (statements_in l.drivers)))
      ≡ or_in (masked l.once) (spread (driven-set (scope_at l.scope) (statements_in (drop l.driver-index l.drivers))));
  known : IsLeftToKnow (scope_at l.scope) (statements_in l.drivers) (statements_in (drop l.driver-index l.drivers)) (masked l.once) (masked l.twice);
  fit : AreFitToRun (scope_at l.scope) (statements_in (drop l.driver-index l.drivers));
}
