use Rattle.std.proofs.Common.{◌≡◌, ◌≤◌, ◌^◌, true, ap, sym, subst, ◌∙◌}
use Rattle.std.specs.Prelude.{is_some}
use Rattle.wb_values.specs.Value.{word, memory}
use Rattle.verilog_meaning.specs.Expression.{is_memory}
use Rattle.v_value.specs.Scope.{object_of}
use Rattle.v_operators.proofs.Growing.{Grows-trans, IsOfSort-kept}
use Rattle.v_write.specs.Parts.{IsAddress}
use Rattle.v_write.proofs.Kept.{bits_kept}
use Rattle.v_write.proofs.Replaced.{term_memory, term_shape, few_words, filled_before, memory_changed, name_stored}
use Rattle.v_write.proofs.changing.memory_changed.Goals as goal

pub measured-shape-requires : goal.measured-shape-requires
measured-shape-requires c = term_memory (object_of c.args.object) c.args.terms.now c.args.old.0 (c.requires.part.memory ∙ ap is_some c.requires.address) c.requires.old

pub near-requires : goal.near-requires
near-requires c = record { index = subst (IsAddress c.args.terms.now) c.requires.address c.requires.part.address }

pub word_filled-requires-clause-old : goal.word_filled-requires-clause-old
word_filled-requires-clause-old c =
    IsOfSort-kept c.args.old.0 (memory c.measured-shape.result.address_width c.measured-shape.result.width) (Grows-trans c.in_ok-close.ensures.grows c.in_ok-place.ensures.grows) c.measured-shape.ensures

pub word_filled-requires-clause-width : goal.word_filled-requires-clause-width
word_filled-requires-clause-width c = (term_shape (object_of c.args.object) c.args.terms.now c.args.old.0 c.measured-shape.result.address_width c.measured-shape.result.width c.requires.old c.measured-shape.ensures).1

pub word_filled-requires-clause-number : goal.word_filled-requires-clause-number
word_filled-requires-clause-number c = IsOfSort-kept c.args.number.0 (word c.args.part.now.count) (Grows-trans c.in_ok-close.ensures.grows c.in_ok-place.ensures.grows) c.requires.number

pub word_filled-requires-clause-bits : goal.word_filled-requires-clause-bits
word_filled-requires-clause-bits c =
    bits_kept c.args.terms.now c.less_by.new.terms (Grows-trans c.in_ok-close.ensures.grows c.in_ok-place.ensures.grows) (object_of c.args.object) c.args.part.now.count c.args.part.now.bits c.requires.part.bits

pub word_count-count-requires : goal.word_count-count-requires
word_count-count-requires c = few_words (object_of c.args.object) c.args.terms.now c.args.old.0 c.measured-shape.result.address_width c.measured-shape.result.width c.requires.old c.measured-shape.ensures

pub stored-requires-clause-operand : goal.stored-requires-clause-operand
stored-requires-clause-operand c =
    IsOfSort-kept c.args.old.0 (memory c.measured-shape.result.address_width c.measured-shape.result.width) (Grows-trans (Grows-trans c.in_ok-close.ensures.grows c.in_ok-place.ensures.grows) c.in_ok-word.ensures.grows) c.measured-shape.ensures

pub stored-requires-clause-place : goal.stored-requires-clause-place
stored-requires-clause-place c = IsOfSort-kept c.in_ok-place.place.0 (word 64) c.in_ok-word.ensures.grows c.in_ok-place.ensures.made.of_sort

pub stored-requires-clause-room : goal.stored-requires-clause-room
stored-requires-clause-room c =
    subst (λ k. k ≤ 2 ^ c.measured-shape.result.address_width) (sym c.word_count-count.ensures)
    (term_shape (object_of c.args.object) c.args.terms.now c.args.old.0 c.measured-shape.result.address_width c.measured-shape.result.width c.requires.old c.measured-shape.ensures).0.enough

pub returns-clause-changed : goal.returns-clause-changed
returns-clause-changed c =
    let o = object_of c.args.object in
    let g = c.args.terms.now in
    let q = c.args.part.now in
    let a = c.measured-shape.result.address_width in
    let d = c.measured-shape.result.width in
    let shape = term_shape o g c.args.old.0 a d c.requires.old c.measured-shape.ensures in
    let is_mem : is_memory o ≡ true = c.requires.part.memory ∙ ap is_some c.requires.address in
    name_stored o g c.stored.new.terms q c.args.address c.args.old.0 c.args.number.0 c.in_ok-id.id.0 a d c.requires.address c.measured-shape.ensures c.in_ok-id.ensures.made.of_sort
    (memory_changed o g c.near.new.terms c.less_by.new.terms c.word_filled.new.terms c.stored.new.terms q.bits c.args.address c.args.old.0 c.args.number.0 q.count c.in_ok-close.close.0 c.in_ok-place.place.0 c.in_ok-word.word.0 c.in_ok-id.id.0 a d
    c.least_address.result c.word_count-count.result is_mem c.measured-shape.ensures shape.0 shape.1 (subst (IsAddress g) c.requires.address c.requires.part.address)
    c.in_ok-close.ensures.grows c.in_ok-close.ensures.made c.in_ok-place.ensures.grows c.in_ok-place.ensures.made c.in_ok-word.ensures.grows
    (filled_before o g c.less_by.new.terms c.word_filled.new.terms q.bits c.args.old.0 c.in_ok-place.place.0 c.args.number.0 q.count c.in_ok-word.word.0 a d (Grows-trans c.in_ok-close.ensures.grows c.in_ok-place.ensures.grows) c.measured-shape.ensures c.requires.part.bits c.requires.number c.in_ok-word.ensures.filled)
    c.in_ok-id.ensures.made c.least_address.ensures.least c.word_count-count.ensures)
