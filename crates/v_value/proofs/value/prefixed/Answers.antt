use Rattle.std.proofs.Common.{◌<◌, ◌^◌, ◌∙◌, sym, subst}
use Rattle.v_value.proofs.Values.{bit_fits}
use Rattle.v_value.proofs.Steps as steps
use Rattle.v_value.proofs.value.prefixed.Goals as goal

pub loop-i-preserved-then-is_reduction : goal.loop-i-preserved-then-is_reduction
loop-i-preserved-then-is_reduction c =
    let own = c.args.own in
    let inner = c.loop-i.inner in
    let reduces = sym c.is_reduction.ensures ∙ c.if-is_reduction.true in
    record {
      outer = steps.reduced-outer c.args.operators.now c.loop-i.i c.loop-i-test.true c.loop-i.auto.i reduces c.args.width c.args.value own.width own.value inner.width inner.value c.loop-i.invariant.inner_width c.loop-i.invariant.inner_value c.reduction.result c.reduction.ensures c.bit-bit.result c.bit-bit.ensures.value;
      fits = subst (λ x. x < 2 ^ c.args.width) (sym c.bit-bit.ensures.value) (bit_fits c.reduction.result c.args.width c.requires.some_bits);
      inner_width = steps.reduced-width c.args.operators.now c.loop-i.i c.loop-i-test.true c.loop-i.auto.i reduces own.width c.new-inner.result.width c.new-inner.ensures.width;
      inner_value = steps.reduced-value c.args.operators.now c.loop-i.i c.loop-i-test.true c.loop-i.auto.i reduces own.width own.value inner.width inner.value c.loop-i.invariant.inner_width c.loop-i.invariant.inner_value c.reduction.result c.reduction.ensures c.bit-bit.result c.new-inner.result.value c.bit-bit.ensures.value c.new-inner.ensures.value;
    }
