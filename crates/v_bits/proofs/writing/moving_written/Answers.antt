use Rattle.wb_values.specs.Value.{word}
use Rattle.v_value.specs.Scope.{object_of}
use Rattle.v_operators.proofs.Growing.{Grows-trans, IsOfSort-kept}
use Rattle.v_operators.proofs.Testing.{some_bits, at_most_128}
use Rattle.v_bits.proofs.Written.{moving_written_made}
use Rattle.v_bits.proofs.writing.moving_written.Goals as goal

pub ones-requires-clause-some_bits : goal.ones-requires-clause-some_bits
ones-requires-clause-some_bits c = some_bits c.args.terms.now c.args.number.0 c.args.wanted.count c.requires.number

pub ones-requires-clause-at_most_128 : goal.ones-requires-clause-at_most_128
ones-requires-clause-at_most_128 c = at_most_128 c.args.terms.now c.args.number.0 c.args.wanted.count c.requires.number

pub moved-requires-clause-some_bits : goal.moved-requires-clause-some_bits
moved-requires-clause-some_bits c = some_bits c.args.terms.now c.args.old.0 c.args.width c.requires.old

pub moved-requires-clause-at_most_128 : goal.moved-requires-clause-at_most_128
moved-requires-clause-at_most_128 c = at_most_128 c.args.terms.now c.args.old.0 c.args.width c.requires.old

pub moved-requires-2-clause-operand : goal.moved-requires-2-clause-operand
moved-requires-2-clause-operand c =
    IsOfSort-kept c.args.number.0 (word c.args.wanted.count) (Grows-trans c.in_ok-up.ensures.grows (Grows-trans c.in_ok-all.ensures.grows c.in_ok-mask.ensures.grows)) c.requires.number

pub moved-requires-2-clause-place : goal.moved-requires-2-clause-place
moved-requires-2-clause-place c = IsOfSort-kept c.in_ok-up.up.0 (word 64) (Grows-trans c.in_ok-all.ensures.grows c.in_ok-mask.ensures.grows) c.in_ok-up.ensures.made.of_sort

pub moved-requires-2-clause-some_bits : goal.moved-requires-2-clause-some_bits
moved-requires-2-clause-some_bits c = some_bits c.args.terms.now c.args.old.0 c.args.width c.requires.old

pub moved-requires-2-clause-at_most_128 : goal.moved-requires-2-clause-at_most_128
moved-requires-2-clause-at_most_128 c = at_most_128 c.args.terms.now c.args.old.0 c.args.width c.requires.old

pub merged-requires-clause-old : goal.merged-requires-clause-old
merged-requires-clause-old c =
    IsOfSort-kept c.args.old.0 (word c.args.width) (Grows-trans c.in_ok-up.ensures.grows (Grows-trans c.in_ok-all.ensures.grows (Grows-trans c.in_ok-mask.ensures.grows c.in_ok-value.ensures.grows))) c.requires.old

pub merged-requires-clause-mask : goal.merged-requires-clause-mask
merged-requires-clause-mask c = IsOfSort-kept c.in_ok-mask.mask.0 (word c.args.width) c.in_ok-value.ensures.grows c.in_ok-mask.ensures.made.of_sort

pub returns-in_err-id-clause-grows : goal.returns-in_err-id-clause-grows
returns-in_err-id-clause-grows c =
    Grows-trans c.in_ok-up.ensures.grows (Grows-trans c.in_ok-all.ensures.grows (Grows-trans c.in_ok-mask.ensures.grows (Grows-trans c.in_ok-value.ensures.grows c.merged.ensures.grows)))

pub returns-clause-grows : goal.returns-clause-grows
returns-clause-grows c =
    Grows-trans c.in_ok-up.ensures.grows (Grows-trans c.in_ok-all.ensures.grows (Grows-trans c.in_ok-mask.ensures.grows (Grows-trans c.in_ok-value.ensures.grows c.merged.ensures.grows)))

pub returns-clause-made : goal.returns-clause-made
returns-clause-made c =
    moving_written_made c.args.terms.now c.way_up.new.terms c.ones.new.terms c.moved.new.terms c.moved-2.new.terms c.merged.new.terms c.args.old.0 c.args.width c.args.number.0 c.args.wanted.count
    c.args.index.id.0 c.args.index.width c.in_ok-up.up.0 c.in_ok-all.all.0 c.in_ok-mask.mask.0 c.in_ok-value.value.0 c.in_ok-id.id.0 c.args.wanted.back c.args.index.signed (object_of c.args.wanted.object)
    c.requires.old c.requires.number c.requires.small c.in_ok-up.ensures.right
    c.in_ok-up.ensures.grows c.in_ok-up.ensures.made c.in_ok-all.ensures.grows c.in_ok-all.ensures.value c.in_ok-mask.ensures.grows c.in_ok-mask.ensures.made
    c.in_ok-value.ensures.grows c.in_ok-value.ensures.made c.in_ok-id.ensures.made
