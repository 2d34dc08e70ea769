use Rattle.gate_words.proofs.Multiplying.{multiplying_start, multiplying_turn, multiplying_end}
use Rattle.gate_words.proofs.products.product.Goals as goal

pub loop-place-init : goal.loop-place-init
loop-place-init c = multiplying_start c.args.circuit.now c.args.xs.now c.args.ys.now _ c.in_ok-sum.ensures

pub returns-clause-product : goal.returns-clause-product
returns-clause-product c = multiplying_end _ _ c.args.xs.now c.args.ys.now _ c.loop-place.place c.loop-place.invariant c.loop-place-test.false

pub loop-place-preserved : goal.loop-place-preserved
loop-place-preserved c =
    multiplying_turn c.args.circuit.now c.loop-place.circuit c.with_row.new.circuit c.args.xs.now c.args.ys.now c.loop-place.sum.items c.as_slice.result.now c.in_ok-sum-2.sum.items c.loop-place.place _
    c.loop-place.invariant c.in_ok-sum-2.ensures.grows c.as_slice.ensures.value c.in_ok-sum-2.ensures.row c.loop-place-test.true
