use Rattle.wb_values.specs.Value.{word}
use Rattle.v_value.specs.Scope.{object_of}
use Rattle.v_operators.proofs.Growing.{Grows-refl, IsOfSort-kept}
use Rattle.v_write.proofs.Kept.{bits_kept}
use Rattle.v_write.proofs.Replaced.{all_filled, bits_filled}
use Rattle.v_write.proofs.changing.word_filled.Goals as goal

pub returns-then-is_all-clause-grows : goal.returns-then-is_all-clause-grows
returns-then-is_all-clause-grows c = Grows-refl c.args.terms.now

pub returns-then-is_all-clause-filled : goal.returns-then-is_all-clause-filled
returns-then-is_all-clause-filled c =
    all_filled (object_of c.args.object) c.args.terms.now c.args.part.now.bits c.args.old.0 c.args.place.0 c.args.number.0 c.args.part.now.count c.args.shape.address_width c.args.shape.width
    (c.is_all.ensures c.if-is_all.true) c.requires.width c.requires.bits c.requires.number

pub word_changed-requires-clause-old : goal.word_changed-requires-clause-old
word_changed-requires-clause-old c = c.in_ok-read.ensures.read.of_sort

pub word_changed-requires-clause-number : goal.word_changed-requires-clause-number
word_changed-requires-clause-number c = IsOfSort-kept c.args.number.0 (word c.args.part.now.count) c.in_ok-read.ensures.grows c.requires.number

pub word_changed-requires-clause-bits : goal.word_changed-requires-clause-bits
word_changed-requires-clause-bits c = bits_kept c.args.terms.now c.word_read.new.terms c.in_ok-read.ensures.grows (object_of c.args.object) c.args.part.now.count c.args.part.now.bits c.requires.bits

pub returns-clause-filled : goal.returns-clause-filled
returns-clause-filled c =
    bits_filled (object_of c.args.object) c.args.terms.now c.word_read.new.terms c.word_changed.new.terms c.args.part.now.bits c.args.old.0 c.args.place.0 c.args.number.0 c.in_ok-read.read.0 c.args.part.now.count c.in_ok-id.id.0
    c.args.shape.address_width c.args.shape.width c.requires.width c.in_ok-read.ensures.grows c.requires.old c.requires.bits c.requires.number c.in_ok-read.ensures.read c.in_ok-id.ensures.changed
