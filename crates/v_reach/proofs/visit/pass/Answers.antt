use Rattle.v_value.specs.Scope.{scope_at}
use Rattle.v_masks.specs.Masks.{masked}
use Rattle.v_order.specs.Lists.{statements_in}
use Rattle.v_reach.proofs.Spreading.{none-spread, spread-then}
use Rattle.v_reach.proofs.visit.pass.Goals as goal

pub loop-index-init : goal.loop-index-init
loop-index-init c = none-spread (scope_at c.args.scope.now) (statements_in c.args.drivers.now) (masked c.args.marked.now)

pub visit_at-requires-clause-variables : goal.visit_at-requires-clause-variables
visit_at-requires-clause-variables c = c.loop-index.invariant.free c.requires.variables

pub loop-index-preserved : goal.loop-index-preserved
loop-index-preserved c =
    spread-then (scope_at c.args.scope.now) (statements_in c.args.drivers.now) (masked c.args.marked.now) (masked c.loop-index.marked) (masked c.visit_at.new.marked)
    c.loop-index.invariant c.in_ok-visit_at.ensures

pub returns : goal.returns
returns c = c.loop-index.invariant
