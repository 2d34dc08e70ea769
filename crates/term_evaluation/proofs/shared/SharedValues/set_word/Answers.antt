use Rattle.std.proofs.Common.{◌∙◌, List, length, get_or, set, refl, sym, ap, arith}
use Rattle.wb_values.specs.Value as meaning
use Rattle.wb_values.specs.Value.{number}
use Rattle.term_evaluation.specs.Slots.{with_number}
use Rattle.term_evaluation.proofs.SlotLemmas.{on_err, slots_kept, slots-read, slots-set, values-set, values-read, length-values}
use Rattle.term_evaluation.proofs.shared.SharedValues.set_word.Goals as goal

pub index-slot-requires : goal.index-slot-requires
index-slot-requires c = omega (arith, c.requires, ap (λ (vs : List meaning.Value). length vs) c.self.view_is, length-values c.self.inside.pool c.self.inside.slots.items, c.self.inside.slots.ok.0)

pub index_mut-requires : goal.index_mut-requires
index_mut-requires c = omega (arith, c.requires, ap (λ (vs : List meaning.Value). length vs) c.self.view_is, length-values c.self.inside.pool c.self.inside.slots.items, c.self.inside.slots.ok.0)

pub with_word-requires : goal.with_word-requires
with_word-requires c =
    let p = c.self.inside.pool in
    let xs = c.self.inside.slots.items in
    slots-read p xs c.args.place c.index-slot.result.now c.self.invariant (omega (arith, c.requires, ap (λ (vs : List meaning.Value). length vs) c.self.view_is, length-values p xs)) c.index-slot.ensures

pub invariant_of-self-2 : goal.invariant_of-self-2
invariant_of-self-2 c =
    let q = c.with_word.new.pool in
    let kept = slots_kept c.self.inside.pool q c.self.inside.slots.items c.in_ok-changed.ensures.keeps c.self.invariant in
    slots-set q c.self.inside.slots.items c.args.place c.in_ok-changed.changed kept.0 c.in_ok-changed.ensures.slot

pub invariant_of-self : goal.invariant_of-self
invariant_of-self c = (slots_kept c.self.inside.pool c.with_word.new.pool c.self.inside.slots.items c.in_err-changed.ensures.keeps c.self.invariant).0

pub returns-in_err-changed-clause-err : goal.returns-in_err-changed-clause-err
returns-in_err-changed-clause-err c =
    on_err c.from_residual.result _ ((slots_kept c.self.inside.pool c.with_word.new.pool c.self.inside.slots.items c.in_err-changed.ensures.keeps c.self.invariant).1 ∙ c.self.view_is)

pub returns-clause-ok : goal.returns-clause-ok
returns-clause-ok c =
    let p = c.self.inside.pool in
    let q = c.with_word.new.pool in
    let xs = c.self.inside.slots.items in
    let k = c.args.place in
    let kept = slots_kept p q xs c.in_ok-changed.ensures.keeps c.self.invariant in
    let read = sym (values-read p xs k c.index-slot.result.now (number 0) (omega (arith, c.requires, ap (λ (vs : List meaning.Value). length vs) c.self.view_is, length-values p xs)) c.index-slot.ensures)
    ∙ ap (λ (vs : List meaning.Value). get_or vs k (number 0)) c.self.view_is in
    let new = with_number (get_or c.args.self.now k (number 0)) c.args.word c.args.value in
    values-set q xs (set xs k c.in_ok-changed.changed) k c.in_ok-changed.changed new refl (c.in_ok-changed.ensures.value ∙ ap (λ (v : meaning.Value). with_number v c.args.word c.args.value) read)
    ∙ ap (λ (vs : List meaning.Value). set vs k new) (kept.1 ∙ c.self.view_is)
