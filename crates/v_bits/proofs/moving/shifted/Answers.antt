use Rattle.wb_values.specs.Value.{word}
use Rattle.v_operators.proofs.Growing.{Grows-trans, IsOfSort-kept}
use Rattle.v_bits.proofs.Placing.{shifted_made}
use Rattle.v_bits.proofs.moving.shifted.Goals as goal

pub negated-requires : goal.negated-requires
negated-requires c = IsOfSort-kept c.args.place.0 (word 64) c.in_ok-down.ensures.grows c.requires.place

pub shifted_left-requires-clause-operand : goal.shifted_left-requires-clause-operand
shifted_left-requires-clause-operand c = IsOfSort-kept c.args.operand.0 (word c.args.width) (Grows-trans c.in_ok-down.ensures.grows c.in_ok-back.ensures.grows) c.requires.operand

pub disjunction-requires-clause-left : goal.disjunction-requires-clause-left
disjunction-requires-clause-left c = IsOfSort-kept c.in_ok-down.down.0 (word c.args.width) (Grows-trans c.in_ok-back.ensures.grows c.in_ok-up.ensures.grows) c.in_ok-down.ensures.made.of_sort

pub returns-in_err-id-clause-grows : goal.returns-in_err-id-clause-grows
returns-in_err-id-clause-grows c = Grows-trans c.in_ok-down.ensures.grows (Grows-trans c.in_ok-back.ensures.grows (Grows-trans c.in_ok-up.ensures.grows c.disjunction.ensures.grows))

pub returns-clause-grows : goal.returns-clause-grows
returns-clause-grows c = Grows-trans c.in_ok-down.ensures.grows (Grows-trans c.in_ok-back.ensures.grows (Grows-trans c.in_ok-up.ensures.grows c.in_ok-id.ensures.grows))

pub returns-clause-made : goal.returns-clause-made
returns-clause-made c =
    shifted_made c.args.terms.now c.shifted_right.new.terms c.negated.new.terms c.shifted_left.new.terms c.disjunction.new.terms c.args.operand.0 c.args.width c.args.place.0
    c.in_ok-down.down.0 c.in_ok-back.back.0 c.in_ok-up.up.0 c.in_ok-id.id.0 c.requires.operand c.requires.place
    c.in_ok-down.ensures.grows c.in_ok-down.ensures.made c.in_ok-back.ensures.grows c.in_ok-back.ensures.made c.in_ok-up.ensures.grows c.in_ok-up.ensures.made c.in_ok-id.ensures.made
