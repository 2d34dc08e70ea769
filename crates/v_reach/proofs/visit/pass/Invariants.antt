use Rattle.v_value.specs.Scope.{scope_at}
use Rattle.v_masks.specs.Masks.{masked}
use Rattle.v_order.specs.Lists.{statements_in}
use Rattle.v_reach.specs.Marking.{IsSpread}
use Rattle.v_reach.proofs.visit.pass.Given as goal

abbrev pub invariant-loop-index : goal.invariant-loop-index
invariant-loop-index l = IsSpread (scope_at l.scope) (statements_in l.drivers) (masked l.initial.marked) (masked l.marked)
