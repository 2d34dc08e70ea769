use Rattle.std.proofs.Common.{arith}
use Rattle.condition_terms.proofs.Sorting.{none_fit, fit_more, all_of_sorts}
use Rattle.condition_terms.proofs.sorts.check_sorts.Goals as goal

pub loop-id-init : goal.loop-id-init
loop-id-init c = none_fit c.args.terms.now

pub loop-id-preserved : goal.loop-id-preserved
loop-id-preserved c = fit_more c.args.terms.now c.loop-id.id c.node-node.result.now c.loop-id.invariant c.node-node.ensures.tree c.node-node.ensures.over

pub returns : goal.returns
returns c = all_of_sorts c.args.terms.now c.loop-id.id c.loop-id.invariant (omega (arith, c.loop-id-test.false, c.len-id-end.ensures.terms))
