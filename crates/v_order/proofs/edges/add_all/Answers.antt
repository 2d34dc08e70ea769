use Rattle.std.proofs.Common.{arith}
use Rattle.v_value.specs.Scope.{scope_at}
use Rattle.v_statement.proofs.Runs.{rest_is}
use Rattle.v_order.proofs.Each.{narrow-turn}
use Rattle.v_order.proofs.edges.add_all.Goals as goal

pub add_driven-requires-clause-narrow : goal.add_driven-requires-clause-narrow
add_driven-requires-clause-narrow c = (narrow-turn (scope_at c.args.scope.now) c.args.drivers.now c.loop-index.index c.index-drivers-index.result (rest_is c.args.drivers.now c.loop-index.index c.index-drivers-index.result (omega arith) c.index-drivers-index.is) c.loop-index.invariant).0

pub loop-index-preserved : goal.loop-index-preserved
loop-index-preserved c = (narrow-turn (scope_at c.args.scope.now) c.args.drivers.now c.loop-index.index c.index-drivers-index.result (rest_is c.args.drivers.now c.loop-index.index c.index-drivers-index.result (omega arith) c.index-drivers-index.is) c.loop-index.invariant).1
