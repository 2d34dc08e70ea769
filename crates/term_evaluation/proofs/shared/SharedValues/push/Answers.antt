use Rattle.std.proofs.Common.{◌∙◌, ap, List, ◌++◌, [], ◌∷◌}
use Rattle.wb_values.specs.Value as meaning
use Rattle.wb_terms.specs.Environment.{as_value}
use Rattle.term_evaluation.specs.Slots.{values_in}
use Rattle.term_evaluation.proofs.SlotLemmas.{on_err, slots_kept, slots-push, values-push}
use Rattle.term_evaluation.proofs.shared.SharedValues.push.Goals as goal

pub invariant_of-self : goal.invariant_of-self
invariant_of-self c = (slots_kept c.self.inside.pool c.slot_of.new.pool c.self.inside.slots.items c.in_err-slot.ensures.keeps c.self.invariant).0

pub returns-in_err-slot-clause-err : goal.returns-in_err-slot-clause-err
returns-in_err-slot-clause-err c =
    on_err c.from_residual.result _ ((slots_kept c.self.inside.pool c.slot_of.new.pool c.self.inside.slots.items c.in_err-slot.ensures.keeps c.self.invariant).1 ∙ c.self.view_is)

pub invariant_of-self-in_err-push : goal.invariant_of-self-in_err-push
invariant_of-self-in_err-push c =
    rw c.in_err-push.ensures.items (slots_kept c.self.inside.pool c.slot_of.new.pool c.self.inside.slots.items c.in_ok-slot.ensures.keeps c.self.invariant).0

pub returns-in_err-push-clause-err : goal.returns-in_err-push-clause-err
returns-in_err-push-clause-err c =
    on_err c.from_residual-in_err-push.result _
    (ap (values_in c.slot_of.new.pool) c.in_err-push.ensures.items ∙ (slots_kept c.self.inside.pool c.slot_of.new.pool c.self.inside.slots.items c.in_ok-slot.ensures.keeps c.self.invariant).1 ∙ c.self.view_is)

pub invariant_of-self-2 : goal.invariant_of-self-2
invariant_of-self-2 c =
    let kept = slots_kept c.self.inside.pool c.slot_of.new.pool c.self.inside.slots.items c.in_ok-slot.ensures.keeps c.self.invariant in
    rw c.in_ok-push.ensures.items (slots-push c.slot_of.new.pool c.self.inside.slots.items c.in_ok-slot.slot kept.0 c.in_ok-slot.ensures.slot)

pub returns-clause-ok : goal.returns-clause-ok
returns-clause-ok c =
    let kept = slots_kept c.self.inside.pool c.slot_of.new.pool c.self.inside.slots.items c.in_ok-slot.ensures.keeps c.self.invariant in
    values-push c.slot_of.new.pool c.self.inside.slots.items c.push.new.self.items c.in_ok-slot.slot (as_value c.args.value.now) c.in_ok-push.ensures.items c.in_ok-slot.ensures.value
    ∙ ap (λ (vs : List meaning.Value). vs ++ as_value c.args.value.now ∷ []) (kept.1 ∙ c.self.view_is)
