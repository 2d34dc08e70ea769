use Rattle.v_value.specs.Scope.{scope_at}
use Rattle.v_masks.specs.Masks.{masked}
use Rattle.v_order.specs.Lists.{statements_in}
use Rattle.v_loops.proofs.Driven.{narrow-all}
use Rattle.v_loops.proofs.Passing.{none-passed, passed-then, passed-free}
use Rattle.v_loops.proofs.pass.passes.Goals as goal

pub order_of-requires-clause-narrow : goal.order_of-requires-clause-narrow
order_of-requires-clause-narrow c = narrow-all (scope_at c.args.scope.now) (statements_in c.args.drivers.now) c.requires.fit

pub loop-init : goal.loop-init
loop-init c = none-passed (scope_at c.args.scope.now) (statements_in c.args.drivers.now) (masked c.args.unsettled.now)

pub returns-then-not-some : goal.returns-then-not-some
returns-then-not-some c = c.loop.invariant

pub pass-requires-clause-apart : goal.pass-requires-clause-apart
pass-requires-clause-apart c = c.requires.apart

pub pass-requires-clause-variables : goal.pass-requires-clause-variables
pass-requires-clause-variables c =
    passed-free (scope_at c.args.scope.now) (statements_in c.args.drivers.now) (masked c.args.unsettled.now) (masked c.loop.unsettled) c.loop.invariant c.requires.variables

pub returns-then-not-settled : goal.returns-then-not-settled
returns-then-not-settled c =
    passed-then (scope_at c.args.scope.now) (statements_in c.args.drivers.now) (masked c.args.unsettled.now) (masked c.loop.unsettled) (masked c.pass.new.unsettled) c.loop.invariant c.in_ok-settled.ensures

pub loop-preserved : goal.loop-preserved
loop-preserved c =
    passed-then (scope_at c.args.scope.now) (statements_in c.args.drivers.now) (masked c.args.unsettled.now) (masked c.loop.unsettled) (masked c.pass.new.unsettled) c.loop.invariant c.in_ok-settled.ensures

pub returns : goal.returns
returns c = c.loop.invariant
