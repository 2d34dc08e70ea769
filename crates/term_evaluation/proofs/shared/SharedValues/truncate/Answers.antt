use Rattle.std.proofs.Common.{◌∙◌, sym, ap, take}
use Rattle.std.proofs.lemmas.List.{take-map}
use Rattle.term_evaluation.specs.Slots.{value_in, values_in}
use Rattle.term_evaluation.proofs.SlotLemmas.{slots-take}
use Rattle.term_evaluation.proofs.shared.SharedValues.truncate.Goals as goal

pub invariant_of-self : goal.invariant_of-self
invariant_of-self c = rw c.truncate.ensures.items (slots-take c.self.inside.pool c.self.inside.slots.items c.args.len c.self.invariant)

pub returns : goal.returns
returns c =
    ap (values_in c.self.inside.pool) c.truncate.ensures.items
    ∙ sym (take-map (value_in c.self.inside.pool) c.args.len c.self.inside.slots.items)
    ∙ ap (take c.args.len) c.self.view_is
