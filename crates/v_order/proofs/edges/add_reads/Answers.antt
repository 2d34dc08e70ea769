use Rattle.std.proofs.Common.{arith}
use Rattle.v_value.specs.Scope.{scope_at}
use Rattle.v_statement.proofs.Runs.{rest_is}
use Rattle.v_order.proofs.Each.{narrow-turn}
use Rattle.v_order.proofs.edges.add_reads.Goals as goal

pub add_read-requires-clause-narrow : goal.add_read-requires-clause-narrow
add_read-requires-clause-narrow c = (narrow-turn (scope_at c.args.scope.now) c.args.drivers.now c.loop-driver.driver-index c.driver-item.result (rest_is c.args.drivers.now c.loop-driver.driver-index c.driver-item.result (omega arith) c.driver-item.is) c.loop-driver.invariant).0

pub loop-driver-preserved : goal.loop-driver-preserved
loop-driver-preserved c = (narrow-turn (scope_at c.args.scope.now) c.args.drivers.now c.loop-driver.driver-index c.driver-item.result (rest_is c.args.drivers.now c.loop-driver.driver-index c.driver-item.result (omega arith) c.driver-item.is) c.loop-driver.invariant).1
