use Rattle.std.proofs.Common.{◌≡◌, ℕ, ◌∙◌, sym, ap, pos, neg_ℤ, true}
use Rattle.wb_values.specs.Number.{top_bit, word_neg}
use Rattle.verilog_meaning.specs.Expression.{integer_from}
use Rattle.v_value.proofs.Integers.{size-of_negative}
use Rattle.v_value.proofs.arithmetic.read_integer.Goals as goal

pub returns-then-is_negative-clause-value : goal.returns-then-is_negative-clause-value
returns-then-is_negative-clause-value c =
    let word = c.new-word.result in
    let t : top_bit c.args.width c.args.value ≡ true = sym (ap (λ w. top_bit w word.value) c.new-word.ensures.width ∙ ap (top_bit c.args.width) c.new-word.ensures.value) ∙ sym c.is_negative.ensures ∙ c.if-is_negative.true in
    ap (λ b. integer_from b c.args.width c.args.value) c.if-signed.true ∙ size-of_negative c.args.width c.args.value c.requires.fits t
    ∙ sym (ap (λ (n : ℕ). neg_ℤ (pos n)) (c.neg.ensures.value ∙ ap (λ w. word_neg w word.value) c.new-word.ensures.width ∙ ap (word_neg c.args.width) c.new-word.ensures.value))
