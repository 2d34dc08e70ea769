use Rattle.v_value.specs.Scope.{scope_at}
use Rattle.v_flow.specs.Spans.{bits_in}
use Rattle.v_paths.specs.Premises.{HasNoMemory}
use Rattle.v_order.specs.Lists.{statements_in}
use Rattle.v_loops.proofs.Turning.{IsOnward}
use Rattle.v_loops.proofs.turn.turns.Given as goal

abbrev pub invariant-loop : goal.invariant-loop
invariant-loop l = record {
  onward : IsOnward (scope_at l.scope) (statements_in l.drivers) (bits_in l.initial.unsettled.items) (bits_in l.unsettled.items) l.counter;
  variables : HasNoMemory (scope_at l.scope) (bits_in l.unsettled.items);
}
