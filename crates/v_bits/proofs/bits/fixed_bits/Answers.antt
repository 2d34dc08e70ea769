use Rattle.std.proofs.Common.{◌+◌, ◌*◌, ◌%◌, ◌^◌, subst}
use Rattle.v_operators.specs.Meaning.{Makes}
use Rattle.v_bits.proofs.Places.{span_far, span_below}
use Rattle.v_bits.proofs.bits.fixed_bits.Goals as goal

pub returns-then-place-ge128-clause-made : goal.returns-then-place-ge128-clause-made
returns-then-place-ge128-clause-made c =
    span_far c.args.terms.now c.nothing.new.terms c.args.operand.0 c.args.width c.in_ok-id-3.id.0 c.args.span.place.magnitude c.args.span.back c.args.span.count c.args.span.place.negative c.if-not-span.false c.requires.at_most_128 c.if-place-ge128.true
    c.in_ok-id-3.ensures.made

pub returns-clause-made : goal.returns-clause-made
returns-clause-made c =
    span_below c.args.terms.now c.raised-2.new.terms c.args.operand.0 c.args.width c.in_ok-id-4.id.0 c.args.span.place.magnitude c.args.span.back c.args.span.count c.args.span.place.negative c.if-not-span.false
    (subst (λ k. Makes c.args.terms.now c.raised-2.new.terms c.args.operand.0 c.args.width c.in_ok-id-4.id.0 c.args.span.count (λ a. a * 2 ^ (c.args.span.place.magnitude + k + 1) % 2 ^ c.args.span.count)) c.from-back.ensures c.in_ok-id-4.ensures.made)
