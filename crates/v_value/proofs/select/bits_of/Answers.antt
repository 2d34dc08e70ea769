use Rattle.std.proofs.Common.{◌∙◌}
use Rattle.v_value.proofs.Bits.{far_below}
use Rattle.v_value.proofs.select.bits_of.Goals as goal

pub returns-then-place-ge128-clause-value : goal.returns-then-place-ge128-clause-value
returns-then-place-ge128-clause-value c =
    c.new.ensures.value ∙ far_below c.args.span.place.negative c.args.span.place.magnitude c.args.span.back c.args.span.count c.args.value c.if-not-span.false c.requires.at_most_128 c.if-place-ge128.true
