use Rattle.std.proofs.Common.{◌∙◌, List, ◌++◌, [], ◌∷◌, ap}
use Rattle.wb_values.specs.Value as meaning
use Rattle.wb_terms.specs.Sort.{as_sort}
use Rattle.term_evaluation.specs.Slots.{zero_of}
use Rattle.term_evaluation.proofs.SlotLemmas.{slots-push, values-push}
use Rattle.term_evaluation.proofs.shared.SharedValues.push_zero.Goals as goal

pub invariant_of-self-2 : goal.invariant_of-self-2
invariant_of-self-2 c = rw c.in_ok-push.ensures.items (slots-push c.self.inside.pool c.self.inside.slots.items c.zero_slot-slot.result c.self.invariant c.zero_slot-slot.ensures.slot)

pub returns-clause-ok : goal.returns-clause-ok
returns-clause-ok c =
    values-push c.self.inside.pool c.self.inside.slots.items c.push.new.self.items c.zero_slot-slot.result (zero_of (as_sort c.args.sort)) c.in_ok-push.ensures.items c.zero_slot-slot.ensures.value
    ∙ ap (λ (vs : List meaning.Value). vs ++ zero_of (as_sort c.args.sort) ∷ []) c.self.view_is
