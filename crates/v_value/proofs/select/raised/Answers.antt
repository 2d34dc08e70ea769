use Rattle.std.proofs.Common.{◌*◌, ◌^◌, ◌∙◌, ◌≤◌, arith}
use Rattle.v_value.proofs.Bits.{below, cut_first}
use Rattle.v_value.proofs.select.raised.Goals as goal

pub returns-then-places-lt128-clause-value : goal.returns-then-places-lt128-clause-value
returns-then-places-lt128-clause-value c =
    cut_first (c.args.value * 2 ^ c.args.places) c.args.count 128 c.lowest_bits.result.value c.requires.at_most_128 c.lowest_bits.ensures.value

pub returns-else-places-lt128-clause-value : goal.returns-else-places-lt128-clause-value
returns-else-places-lt128-clause-value c =
    let past : c.args.count ≤ c.args.places = omega (arith, c.requires.at_most_128, c.if-places-lt128.false) in
    c.new.ensures.value ∙ below c.args.value c.args.places c.args.count past
