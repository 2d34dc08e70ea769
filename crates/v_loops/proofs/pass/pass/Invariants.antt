use Rattle.v_value.specs.Scope.{scope_at}
use Rattle.v_masks.specs.Masks.{masked}
use Rattle.v_order.specs.Lists.{statements_in}
use Rattle.v_loops.specs.Turns.{IsPassed}
use Rattle.v_loops.proofs.pass.pass.Given as goal

abbrev pub invariant-loop-index : goal.invariant-loop-index
invariant-loop-index l = IsPassed (scope_at l.scope) (statements_in l.drivers) (masked l.initial.unsettled) (masked l.unsettled)
