use Rattle.std.proofs.Common.{◌<◌, ◌^◌, sym, subst, arith}
use Rattle.wb_values.specs.Value.{truth, word}
use Rattle.v_operators.specs.Meaning.{HasNumber}
use Rattle.v_operators.proofs.Growing.{Grows-trans, IsOfSort-kept}
use Rattle.v_operators.proofs.Testing.{at_most_128}
use Rattle.v_operators.proofs.Spreading.{narrowed_made, limit_fits, fits_itself, whole_part}
use Rattle.v_operators.proofs.shifts.narrowed.Goals as goal

pub constant-requires-clause-at_most_128 : goal.constant-requires-clause-at_most_128
constant-requires-clause-at_most_128 c = at_most_128 c.args.terms.now c.args.count.0 c.args.count_width c.requires.count

pub constant-requires-clause-fits : goal.constant-requires-clause-fits
constant-requires-clause-fits c = subst (λ k. k < 2 ^ c.args.count_width) (sym c.places_of-number.ensures) (limit_fits c.args.width c.args.count_width c.requires.narrower)

pub is_below-requires-clause-left : goal.is_below-requires-clause-left
is_below-requires-clause-left c = IsOfSort-kept c.args.count.0 (word c.args.count_width) c.in_ok-limit.ensures.grows c.requires.count

pub part-requires-clause-operand : goal.part-requires-clause-operand
part-requires-clause-operand c = IsOfSort-kept c.args.count.0 (word c.args.count_width) (Grows-trans c.in_ok-limit.ensures.grows c.in_ok-is_less.ensures.grows) c.requires.count

pub constant-requires-2-clause-at_most_128 : goal.constant-requires-2-clause-at_most_128
constant-requires-2-clause-at_most_128 c = omega (arith, c.requires.narrower, at_most_128 c.args.terms.now c.args.count.0 c.args.count_width c.requires.count)

pub constant-requires-2-clause-fits : goal.constant-requires-2-clause-fits
constant-requires-2-clause-fits c = subst (λ k. k < 2 ^ c.args.width) (sym c.places_of-number.ensures) (fits_itself c.args.width)

pub choice-requires-clause-condition : goal.choice-requires-clause-condition
choice-requires-clause-condition c = IsOfSort-kept c.in_ok-is_less.is_less.0 truth (Grows-trans c.in_ok-low.ensures.grows c.in_ok-most.ensures.grows) c.in_ok-is_less.ensures.made.of_sort

pub choice-requires-clause-chosen : goal.choice-requires-clause-chosen
choice-requires-clause-chosen c =
    IsOfSort-kept c.in_ok-low.low.0 (word c.args.width) c.in_ok-most.ensures.grows
    (whole_part c.is_below.new.terms c.part.new.terms c.in_ok-low.low.0 c.args.count.0 c.args.count_width c.args.width c.requires.some_bits c.in_ok-low.ensures.made).of_sort

pub returns-in_err-id-clause-grows : goal.returns-in_err-id-clause-grows
returns-in_err-id-clause-grows c =
    Grows-trans c.in_ok-limit.ensures.grows (Grows-trans c.in_ok-is_less.ensures.grows (Grows-trans c.in_ok-low.ensures.grows (Grows-trans c.in_ok-most.ensures.grows c.choice.ensures.grows)))

pub returns-clause-grows : goal.returns-clause-grows
returns-clause-grows c =
    Grows-trans c.in_ok-limit.ensures.grows (Grows-trans c.in_ok-is_less.ensures.grows (Grows-trans c.in_ok-low.ensures.grows (Grows-trans c.in_ok-most.ensures.grows c.in_ok-id.ensures.grows)))

pub returns-clause-made : goal.returns-clause-made
returns-clause-made c =
    narrowed_made c.args.terms.now c.constant.new.terms c.is_below.new.terms c.part.new.terms c.constant-2.new.terms c.choice.new.terms c.in_ok-id.id.0 c.args.count.0 c.args.count_width c.args.width
    c.in_ok-limit.limit.0 c.in_ok-is_less.is_less.0 c.in_ok-low.low.0 c.in_ok-most.most.0 c.requires.some_bits c.requires.count c.in_ok-limit.ensures.grows
    (λ p. subst (λ k. HasNumber c.constant.new.terms c.in_ok-limit.limit.0 c.args.count_width p k) c.places_of-number.ensures (c.in_ok-limit.ensures.value p))
    c.in_ok-is_less.ensures.made c.in_ok-is_less.ensures.grows
    (whole_part c.is_below.new.terms c.part.new.terms c.in_ok-low.low.0 c.args.count.0 c.args.count_width c.args.width c.requires.some_bits c.in_ok-low.ensures.made) c.in_ok-low.ensures.grows
    (λ p. subst (λ k. HasNumber c.constant-2.new.terms c.in_ok-most.most.0 c.args.width p k) c.places_of-number.ensures (c.in_ok-most.ensures.value p))
    c.in_ok-most.ensures.grows c.in_ok-id.ensures.made
