use Rattle.v_value.specs.Scope.{scope_at}
use Rattle.v_masks.specs.Masks.{masked}
use Rattle.v_order.specs.Lists.{statements_in}
use Rattle.v_reach.specs.Marking.{IsSpread, AreMoreBy}
use Rattle.v_reach.proofs.turn.rounds.Given as goal

abbrev pub invariant-loop : goal.invariant-loop
invariant-loop l = record {
  spread : IsSpread (scope_at l.scope) (statements_in l.drivers) (masked l.initial.marked) (masked l.marked);
  more : AreMoreBy l.counter (scope_at l.scope) (statements_in l.drivers) (masked l.initial.marked) (masked l.marked);
}
