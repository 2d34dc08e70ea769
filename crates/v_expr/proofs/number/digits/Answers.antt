use Rattle.std.proofs.Common.{◌%◌, ◌^◌, arith, ap, ◌∙◌, sym}
use Rattle.v_expr.specs.Digits.{standing}
use Rattle.v_expr.proofs.Digits.{mod_cuts, mod-mod, digit_turn}
use Rattle.v_expr.proofs.number.digits.Goals as goal

pub loop-byte-preserved : goal.loop-byte-preserved
loop-byte-preserved c = record {
  same = c.loop-byte.invariant.same
      ∙ digit_turn c.args.base (standing c.args.part c.args.base) (λ n. n % 2 ^ 128) (mod_cuts (2 ^ 128) c.args.base (standing c.args.part c.args.base)) (mod-mod (2 ^ 128))
      c.args.text.now c.loop-byte.byte-index c.loop-byte.number c.with_digit-number.result (omega arith) c.with_digit-number.ensures;
  whole = ap (λ n. n % 2 ^ 128) c.with_digit-number.ensures ∙ mod-mod (2 ^ 128) _ ∙ sym c.with_digit-number.ensures;
}
