use Rattle.std.proofs.Common.{drop}
use Rattle.v_value.specs.Scope.{scope_at}
use Rattle.v_drivers.specs.Premises.{AreNarrowBlocks}
use Rattle.v_order.specs.Lists.{statements_in}
use Rattle.v_order.proofs.edges.add_reads.Given as goal

abbrev pub invariant-loop-driver : goal.invariant-loop-driver
invariant-loop-driver l = AreNarrowBlocks (scope_at l.scope) (statements_in (drop l.driver-index l.drivers))
