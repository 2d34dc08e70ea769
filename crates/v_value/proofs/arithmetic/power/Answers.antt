use Rattle.std.proofs.Common.{◌∙◌, ◌^◌, arith}
use Rattle.v_value.proofs.Integers.{power-even, power-odd, power-end}
use Rattle.v_value.proofs.arithmetic.power.Goals.{then-left-eq1, else-left-eq1}
use Rattle.v_value.proofs.arithmetic.power.Goals as goal

pub loop-left-preserved : goal.loop-left-preserved
loop-left-preserved c =
    c.loop-left.invariant ∙ elim c.if-left-eq1.branch [
      | then-left-eq1 w ↦ power-odd c.loop-left.product c.loop-left.square c.loop-left.left (2 ^ 128) c.if-left-eq1.product w.if-left-eq1.true w.product-is
      | else-left-eq1 w ↦ power-even c.loop-left.product c.loop-left.square c.loop-left.left (2 ^ 128) c.if-left-eq1.product w.if-left-eq1.false w.product-is
    ]

pub returns-clause-value : goal.returns-clause-value
returns-clause-value c =
    power-end (c.args.base ^ c.args.exponent) c.loop-left.product c.loop-left.square c.loop-left.left c.args.width 128 c.lowest_bits.result.value c.requires.at_most_128 (omega (arith, c.loop-left-test.false)) c.loop-left.invariant c.lowest_bits.ensures.value
