use Rattle.wb_values.specs.Value.{word}
use Rattle.v_operators.proofs.Growing.{Grows-trans, IsOfSort-kept}
use Rattle.v_operators.proofs.Testing.{some_bits, at_most_128}
use Rattle.v_write.proofs.Matches.{cut_fits, plain_made, but_for_made}
use Rattle.v_write.proofs.choosing.is_equal_but_for.Goals as goal

pub lowest-within-requires : goal.lowest-within-requires
lowest-within-requires c = at_most_128 c.args.terms.now c.args.left.0 c.args.width c.requires.left

pub returns-then-within-eq0-clause-made : goal.returns-then-within-eq0-clause-made
returns-then-within-eq0-clause-made c =
    plain_made c.args.terms.now c.is_equal.new.terms c.args.left.0 c.args.right.0 c.in_ok-id.id.0 c.args.width c.args.wild c.lowest-within.result c.lowest-within.ensures c.if-within-eq0.true c.in_ok-id.ensures.made

pub constant-requires-clause-some_bits : goal.constant-requires-clause-some_bits
constant-requires-clause-some_bits c = some_bits c.args.terms.now c.args.left.0 c.args.width c.requires.left

pub constant-requires-clause-at_most_128 : goal.constant-requires-clause-at_most_128
constant-requires-clause-at_most_128 c = at_most_128 c.args.terms.now c.args.left.0 c.args.width c.requires.left

pub constant-requires-clause-fits : goal.constant-requires-clause-fits
constant-requires-clause-fits c = cut_fits c.args.wild c.args.width c.lowest-within.result c.lowest-within.ensures

pub disjunction-requires-clause-left : goal.disjunction-requires-clause-left
disjunction-requires-clause-left c = IsOfSort-kept c.args.left.0 (word c.args.width) c.in_ok-bits.ensures.grows c.requires.left

pub disjunction-requires-2-clause-left : goal.disjunction-requires-2-clause-left
disjunction-requires-2-clause-left c = IsOfSort-kept c.args.right.0 (word c.args.width) (Grows-trans c.in_ok-bits.ensures.grows c.in_ok-first.ensures.grows) c.requires.right

pub disjunction-requires-2-clause-right : goal.disjunction-requires-2-clause-right
disjunction-requires-2-clause-right c = IsOfSort-kept c.in_ok-bits.bits.0 (word c.args.width) c.in_ok-first.ensures.grows c.in_ok-bits.ensures.of_sort

pub is_equal-requires-2-clause-left : goal.is_equal-requires-2-clause-left
is_equal-requires-2-clause-left c = IsOfSort-kept c.in_ok-first.first.0 (word c.args.width) c.in_ok-second.ensures.grows c.in_ok-first.ensures.made.of_sort

pub returns-clause-grows : goal.returns-clause-grows
returns-clause-grows c = Grows-trans c.in_ok-bits.ensures.grows (Grows-trans c.in_ok-first.ensures.grows (Grows-trans c.in_ok-second.ensures.grows c.in_ok-id-2.ensures.grows))

pub returns-clause-made : goal.returns-clause-made
returns-clause-made c =
    but_for_made c.args.terms.now c.constant.new.terms c.disjunction.new.terms c.disjunction-2.new.terms c.is_equal-2.new.terms c.args.left.0 c.args.right.0 c.in_ok-bits.bits.0 c.in_ok-first.first.0 c.in_ok-second.second.0 c.in_ok-id-2.id.0
    c.args.width c.args.wild c.lowest-within.result c.lowest-within.ensures c.requires.left c.requires.right c.in_ok-bits.ensures.grows c.in_ok-bits.ensures.of_sort c.in_ok-bits.ensures.value
    c.in_ok-first.ensures.grows c.in_ok-first.ensures.made c.in_ok-second.ensures.grows c.in_ok-second.ensures.made c.in_ok-id-2.ensures.made
