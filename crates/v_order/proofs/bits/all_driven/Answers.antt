use Rattle.std.proofs.Common.{arith, drop, ap}
use Rattle.std.proofs.lemmas.List.{at_drop_all}
use Rattle.v_value.specs.Scope.{scope_at}
use Rattle.v_statement.proofs.Runs.{rest_is}
use Rattle.v_flow.specs.Spans.{bits_in}
use Rattle.v_order.specs.Lists.{statements_in}
use Rattle.v_order.proofs.Each.{narrow-turn}
use Rattle.v_order.proofs.Driven.{driven-set, driven-turn, driven-end, driven-begun}
use Rattle.v_order.proofs.bits.all_driven.Goals as goal

pub loop-driver-init : goal.loop-driver-init
loop-driver-init c = record { same = driven-begun (scope_at c.args.scope.now) (statements_in c.args.drivers.now) c.new-found.result.items c.new-found.ensures.items; narrow = c.requires.narrow }

pub add_driven-requires-clause-narrow : goal.add_driven-requires-clause-narrow
add_driven-requires-clause-narrow c = (narrow-turn (scope_at c.args.scope.now) c.args.drivers.now c.loop-driver.driver-index c.driver-item.result (rest_is c.args.drivers.now c.loop-driver.driver-index c.driver-item.result (omega arith) c.driver-item.is) c.loop-driver.invariant.narrow).0

pub loop-driver-preserved : goal.loop-driver-preserved
loop-driver-preserved c =
    let s = scope_at c.args.scope.now in
    let ds = c.args.drivers.now in
    record {
      same = driven-turn s ds c.loop-driver.driver-index c.driver-item.result (driven-set s (statements_in ds)) (bits_in c.loop-driver.found.items) _ (rest_is c.args.drivers.now c.loop-driver.driver-index c.driver-item.result (omega arith) c.driver-item.is) c.loop-driver.invariant.same c.in_ok-add_driven.ensures;
      narrow = (narrow-turn s ds c.loop-driver.driver-index c.driver-item.result (rest_is c.args.drivers.now c.loop-driver.driver-index c.driver-item.result (omega arith) c.driver-item.is) c.loop-driver.invariant.narrow).1;
    }

pub returns : goal.returns
returns c =
    let s = scope_at c.args.scope.now in
    let ds = c.args.drivers.now in
    let i = c.loop-driver.driver-index in
    driven-end s (statements_in (drop i ds)) (driven-set s (statements_in ds)) (bits_in c.loop-driver.found.items)
    (at_drop_all statements_in ds i c.loop-driver-test.false) c.loop-driver.invariant.same
