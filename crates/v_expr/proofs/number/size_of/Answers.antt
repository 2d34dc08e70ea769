use Rattle.std.proofs.Common.{min, arith, ◌∙◌}
use Rattle.verilog_text.specs.Spelling.{digit_value, greatest_size}
use Rattle.v_expr.proofs.Digits.{min_cuts, min-min, digit_turn}
use Rattle.v_expr.proofs.number.size_of.Goals as goal

pub loop-byte-preserved : goal.loop-byte-preserved
loop-byte-preserved c = record {
  same = c.loop-byte.invariant.same
      ∙ digit_turn 10 digit_value (λ n. min n greatest_size) (min_cuts greatest_size digit_value) (min-min greatest_size)
      c.args.text.now c.loop-byte.byte-index c.loop-byte.size c.with_size_digit-size.result (omega arith) c.with_size_digit-size.ensures;
  whole = omega (arith, c.with_size_digit-size.ensures);
}
