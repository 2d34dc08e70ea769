use Rattle.std.proofs.Common.{drop}
use Rattle.v_value.specs.Scope.{scope_at}
use Rattle.v_drivers.specs.Premises.{AreNarrowBlocks}
use Rattle.v_order.specs.Lists.{statements_in}
use Rattle.v_order.proofs.edges.add_all.Given as goal

abbrev pub invariant-loop-index : goal.invariant-loop-index
invariant-loop-index l = AreNarrowBlocks (scope_at l.scope) (statements_in (drop l.index l.drivers))
