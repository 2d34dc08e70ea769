use Rattle.std.proofs.Common.{◌∙◌, sym}
use Rattle.v_value.proofs.Bits.{small_magnitude}
use Rattle.v_value.proofs.select.integer_of.Goals as goal

pub returns-then-is_negative-clause-small : goal.returns-then-is_negative-clause-small
returns-then-is_negative-clause-small c =
    λ t. small_magnitude c.args.word.width c.args.word.value c.not.result.value c.args.word.some_bits c.args.word.at_most_128 c.args.word.fits (sym c.is_negative.ensures ∙ c.if-is_negative.true) c.not.ensures.value
