use Rattle.std.proofs.Common.{drop}
use Rattle.v_value.specs.Scope.{scope_at}
use Rattle.v_masks.specs.Masks.{masked}
use Rattle.v_order.specs.Lists.{statements_in}
use Rattle.v_loops.specs.Turns.{AreFitToRun}
use Rattle.v_reach.specs.Marking.{IsSpread}
use Rattle.v_reach.proofs.Spreading.{IsGrownSoFar}
use Rattle.v_reach.proofs.turn.turn.Given as goal

abbrev pub invariant-loop-driver : goal.invariant-loop-driver
invariant-loop-driver l = record {
  spread : IsSpread (scope_at l.scope) (statements_in l.drivers) (masked l.initial.marked) (masked l.marked);
  grown : IsGrownSoFar l.some (scope_at l.scope) (statements_in l.drivers) (statements_in (drop l.driver-index l.drivers)) (masked l.initial.marked) (masked l.marked);
  fit : AreFitToRun (scope_at l.scope) (statements_in (drop l.driver-index l.drivers));
}
