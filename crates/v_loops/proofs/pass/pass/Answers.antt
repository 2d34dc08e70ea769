use Rattle.v_value.specs.Scope.{scope_at}
use Rattle.v_masks.specs.Masks.{masked}
use Rattle.v_order.specs.Lists.{statements_in}
use Rattle.v_loops.proofs.Passing.{none-passed, passed-then, passed-free}
use Rattle.v_loops.proofs.pass.pass.Goals as goal

pub loop-index-init : goal.loop-index-init
loop-index-init c = none-passed (scope_at c.args.scope.now) (statements_in c.args.drivers.now) (masked c.args.unsettled.now)

pub visit_at-requires-clause-variables : goal.visit_at-requires-clause-variables
visit_at-requires-clause-variables c =
    passed-free (scope_at c.args.scope.now) (statements_in c.args.drivers.now) (masked c.args.unsettled.now) (masked c.loop-index.unsettled) c.loop-index.invariant c.requires.variables

pub loop-index-preserved : goal.loop-index-preserved
loop-index-preserved c =
    passed-then (scope_at c.args.scope.now) (statements_in c.args.drivers.now) (masked c.args.unsettled.now) (masked c.loop-index.unsettled) (masked c.visit_at.new.unsettled)
    c.loop-index.invariant c.in_ok-settled.ensures

pub returns : goal.returns
returns c = c.loop-index.invariant
