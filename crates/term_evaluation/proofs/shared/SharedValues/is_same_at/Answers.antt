use Rattle.std.proofs.Common.{◌≡◌, ◌∙◌, ◌↔◌, IsTrue, List, length, get_or, sym, ap, subst, arith}
use Rattle.wb_values.specs.Value as meaning
use Rattle.wb_values.specs.Value.{number}
use Rattle.term_evaluation.specs.Slots.{value_in}
use Rattle.term_evaluation.proofs.SlotLemmas.{slots-read, values-read, length-values}
use Rattle.term_evaluation.proofs.shared.SharedValues.is_same_at.Goals as goal

pub index-here-requires : goal.index-here-requires
index-here-requires c = omega (arith, c.requires.place, ap (λ (vs : List meaning.Value). length vs) c.self.view_is, length-values c.self.inside.pool c.self.inside.slots.items, c.self.inside.slots.ok.0)

pub index-beside-requires : goal.index-beside-requires
index-beside-requires c = omega (arith, c.requires.there, ap (λ (vs : List meaning.Value). length vs) c.other.view_is, length-values c.other.inside.pool c.other.inside.slots.items, c.other.inside.slots.ok.0)

pub is_same_slot-requires-clause-slot : goal.is_same_slot-requires-clause-slot
is_same_slot-requires-clause-slot c =
    let p = c.self.inside.pool in
    let xs = c.self.inside.slots.items in
    slots-read p xs c.args.place c.index-here.result.now c.self.invariant (omega (arith, c.requires.place, ap (λ (vs : List meaning.Value). length vs) c.self.view_is, length-values p xs)) c.index-here.ensures

pub is_same_slot-requires-clause-there : goal.is_same_slot-requires-clause-there
is_same_slot-requires-clause-there c =
    let q = c.other.inside.pool in
    let ys = c.other.inside.slots.items in
    slots-read q ys c.args.there c.index-beside.result.now c.other.invariant (omega (arith, c.requires.there, ap (λ (vs : List meaning.Value). length vs) c.other.view_is, length-values q ys)) c.index-beside.ensures

pub returns : goal.returns
returns c =
    let p = c.self.inside.pool in
    let q = c.other.inside.pool in
    let xs = c.self.inside.slots.items in
    let ys = c.other.inside.slots.items in
    let here = sym (values-read p xs c.args.place c.index-here.result.now (number 0) (omega (arith, c.requires.place, ap (λ (vs : List meaning.Value). length vs) c.self.view_is, length-values p xs)) c.index-here.ensures)
    ∙ ap (λ (vs : List meaning.Value). get_or vs c.args.place (number 0)) c.self.view_is in
    let there = sym (values-read q ys c.args.there c.index-beside.result.now (number 0) (omega (arith, c.requires.there, ap (λ (vs : List meaning.Value). length vs) c.other.view_is, length-values q ys)) c.index-beside.ensures)
    ∙ ap (λ (vs : List meaning.Value). get_or vs c.args.there (number 0)) c.other.view_is in
    subst (λ (v : meaning.Value). IsTrue c.is_same_slot.result ↔ (v ≡ get_or c.args.other.now c.args.there (number 0))) here
    (subst (λ (v : meaning.Value). IsTrue c.is_same_slot.result ↔ (value_in p c.index-here.result.now ≡ v)) there c.is_same_slot.ensures)
