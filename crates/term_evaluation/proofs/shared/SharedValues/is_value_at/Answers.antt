use Rattle.std.proofs.Common.{◌≡◌, ◌∙◌, ◌↔◌, IsTrue, List, length, get_or, sym, ap, subst, arith}
use Rattle.wb_values.specs.Value as meaning
use Rattle.wb_values.specs.Value.{number}
use Rattle.wb_terms.specs.Environment.{as_value}
use Rattle.term_evaluation.proofs.SlotLemmas.{slots-read, values-read, length-values}
use Rattle.term_evaluation.proofs.shared.SharedValues.is_value_at.Goals as goal

pub index-slot-requires : goal.index-slot-requires
index-slot-requires c = omega (arith, c.requires, ap (λ (vs : List meaning.Value). length vs) c.self.view_is, length-values c.self.inside.pool c.self.inside.slots.items, c.self.inside.slots.ok.0)

pub is_value-requires : goal.is_value-requires
is_value-requires c =
    let p = c.self.inside.pool in
    let xs = c.self.inside.slots.items in
    slots-read p xs c.args.place c.index-slot.result.now c.self.invariant (omega (arith, c.requires, ap (λ (vs : List meaning.Value). length vs) c.self.view_is, length-values p xs)) c.index-slot.ensures

pub returns : goal.returns
returns c =
    let p = c.self.inside.pool in
    let xs = c.self.inside.slots.items in
    let k = c.args.place in
    let read = sym (values-read p xs k c.index-slot.result.now (number 0) (omega (arith, c.requires, ap (λ (vs : List meaning.Value). length vs) c.self.view_is, length-values p xs)) c.index-slot.ensures)
    ∙ ap (λ (vs : List meaning.Value). get_or vs k (number 0)) c.self.view_is in
    subst (λ (v : meaning.Value). IsTrue c.is_value.result ↔ (v ≡ as_value c.args.value.now)) read c.is_value.ensures
