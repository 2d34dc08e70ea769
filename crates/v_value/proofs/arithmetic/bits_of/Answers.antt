use Rattle.std.proofs.Common.{◌∙◌, sym, ap, cond, pos, neg_ℤ}
use Rattle.wb_values.specs.Number.{word_neg}
use Rattle.verilog_meaning.specs.Expression.{bits_of_integer}
use Rattle.v_value.proofs.Integers.{bits-of_negative}
use Rattle.v_value.proofs.arithmetic.bits_of.Goals as goal

pub returns-then-negative-clause-value : goal.returns-then-negative-clause-value
returns-then-negative-clause-value c =
    c.neg.ensures.value ∙ ap (λ w. word_neg w c.new.result.value) c.new.ensures.width ∙ ap (word_neg c.args.width) c.new.ensures.value ∙ bits-of_negative c.args.width c.args.size c.requires.fits
    ∙ sym (ap (λ b. bits_of_integer c.args.width (cond b (neg_ℤ (pos c.args.size)) (pos c.args.size))) c.if-negative.true)
