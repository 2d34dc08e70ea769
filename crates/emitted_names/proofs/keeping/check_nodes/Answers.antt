use Rattle.std.proofs.Common.{arith}
use Rattle.emitted_names.proofs.Marking.{none_told, one_told}
use Rattle.emitted_names.proofs.keeping.check_nodes.Goals as goal

pub loop-place-init : goal.loop-place-init
loop-place-init c = none_told c.args.terms.now

pub loop-place-preserved : goal.loop-place-preserved
loop-place-preserved c =
    one_told c.args.terms.now c.loop-place.place c.node_of-node.result c.node_of-node.ensures.node c.node_of-node.ensures.before c.node_of-node.ensures.names c.loop-place.invariant

pub returns : goal.returns
returns c = record {
  ordered = λ k h. c.loop-place.invariant.before k (omega (arith, h, c.loop-place-test.false, c.len-place-end.ensures.terms));
  named = λ k h. c.loop-place.invariant.named k (omega (arith, h, c.loop-place-test.false, c.len-place-end.ensures.terms));
}
