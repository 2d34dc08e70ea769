use Rattle.std.proofs.Common.{arith}
use Rattle.emitted_texts.proofs.Typed.{none_typed, one_typed}
use Rattle.emitted_texts.proofs.checking.check_typed.Goals as goal

pub loop-place-init : goal.loop-place-init
loop-place-init c = none_typed c.args.terms.now

pub loop-place-preserved : goal.loop-place-preserved
loop-place-preserved c =
    one_typed c.args.terms.now c.loop-place.place c.node_of-node.result c.node_of-node.ensures.node c.node_of-node.ensures.sorted c.node_of-node.ensures.names c.loop-place.invariant

pub returns : goal.returns
returns c = record {
  sorts = λ k h. c.loop-place.invariant.sorts k (omega (arith, h, c.loop-place-test.false, c.len-place-end.ensures.terms));
  names = λ k h. c.loop-place.invariant.names k (omega (arith, h, c.loop-place-test.false, c.len-place-end.ensures.terms));
}
