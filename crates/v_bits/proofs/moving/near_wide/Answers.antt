use Rattle.wb_values.specs.Value.{truth, word}
use Rattle.v_operators.proofs.Growing.{Grows-trans, IsOfSort-kept}
use Rattle.v_operators.proofs.Testing.{at_most_128}
use Rattle.v_bits.proofs.Placing.{wide_made}
use Rattle.v_bits.proofs.moving.near_wide.Goals as goal

pub widened-requires-clause-at_most_128 : goal.widened-requires-clause-at_most_128
widened-requires-clause-at_most_128 c = at_most_128 c.args.terms.now c.args.index.0 c.args.width c.requires.index

pub is_equal-requires-clause-right : goal.is_equal-requires-clause-right
is_equal-requires-clause-right c = IsOfSort-kept c.args.index.0 (word c.args.width) (Grows-trans c.in_ok-low.ensures.grows c.in_ok-again.ensures.grows) c.requires.index

pub widened-requires-2-clause-operand : goal.widened-requires-2-clause-operand
widened-requires-2-clause-operand c = IsOfSort-kept c.in_ok-low.low.0 (word 62) (Grows-trans c.in_ok-again.ensures.grows c.in_ok-enough.ensures.grows) c.in_ok-low.ensures.made.of_sort

pub choice-requires-clause-condition : goal.choice-requires-clause-condition
choice-requires-clause-condition c = IsOfSort-kept c.in_ok-enough.enough.0 truth (Grows-trans c.in_ok-kept.ensures.grows c.in_ok-far.ensures.grows) c.in_ok-enough.ensures.made.of_sort

pub choice-requires-clause-chosen : goal.choice-requires-clause-chosen
choice-requires-clause-chosen c = IsOfSort-kept c.in_ok-kept.kept.0 (word 64) c.in_ok-far.ensures.grows c.in_ok-kept.ensures.made.of_sort

pub returns-in_err-id-clause-grows : goal.returns-in_err-id-clause-grows
returns-in_err-id-clause-grows c =
    Grows-trans c.in_ok-low.ensures.grows (Grows-trans c.in_ok-again.ensures.grows (Grows-trans c.in_ok-enough.ensures.grows (Grows-trans c.in_ok-kept.ensures.grows (Grows-trans c.in_ok-far.ensures.grows c.choice.ensures.grows))))

pub returns-clause-grows : goal.returns-clause-grows
returns-clause-grows c =
    Grows-trans c.in_ok-low.ensures.grows (Grows-trans c.in_ok-again.ensures.grows (Grows-trans c.in_ok-enough.ensures.grows (Grows-trans c.in_ok-kept.ensures.grows (Grows-trans c.in_ok-far.ensures.grows c.in_ok-id.ensures.grows))))

pub returns-clause-made : goal.returns-clause-made
returns-clause-made c =
    wide_made c.args.terms.now c.part.new.terms c.widened.new.terms c.is_equal.new.terms c.widened-2.new.terms c.constant.new.terms c.choice.new.terms c.args.index.0 c.args.width
    c.in_ok-low.low.0 c.in_ok-again.again.0 c.in_ok-enough.enough.0 c.in_ok-kept.kept.0 c.in_ok-far.far.0 c.in_ok-id.id.0 c.args.signed c.requires.index
    c.in_ok-low.ensures.grows c.in_ok-low.ensures.made c.in_ok-again.ensures.grows c.in_ok-again.ensures.made c.in_ok-enough.ensures.grows c.in_ok-enough.ensures.made
    c.in_ok-kept.ensures.grows c.in_ok-kept.ensures.made c.in_ok-far.ensures.grows c.in_ok-far.ensures.value c.in_ok-id.ensures.made
