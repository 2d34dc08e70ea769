use Rattle.std.proofs.Common.{◌++◌, [], ◌∷◌, refl, sym, subst}
use Rattle.term_evaluation.specs.Slots.{IsSlotOf, value_in, values_in}
use Rattle.term_evaluation.specs.Points.{PointView}
use Rattle.term_evaluation.proofs.SlotLemmas.{slots-push, values-push}
use Rattle.term_evaluation.proofs.PointLemmas.{other_aside}
use Rattle.term_evaluation.proofs.points.Point.add_aside.Goals as goal

pub invariant_of-self-2 : goal.invariant_of-self-2
invariant_of-self-2 c =
    let there = subst (λ (y : PointView). IsSlotOf y.pool c.args.slot) (sym c.self.view_is) c.requires in
    (c.self.invariant.0, rw c.in_ok-push.ensures.items (slots-push c.self.inside.pool c.self.inside.aside.items c.args.slot c.self.invariant.1 there), c.self.invariant.2)

pub returns-clause-ok : goal.returns-clause-ok
returns-clause-ok c =
    let p = c.self.inside.pool in
    other_aside c.args.self.now (λ (y : PointView). y.aside ++ value_in y.pool c.args.slot ∷ []) (values_in p c.self.inside.names.items) (values_in p c.self.inside.aside.items) (values_in p c.push.new.self.items) c.self.inside.words.items
    c.self.inside.links.items c.self.inside.stamps.items c.self.inside.time p c.self.view_is (values-push p c.self.inside.aside.items c.push.new.self.items c.args.slot (value_in p c.args.slot) c.in_ok-push.ensures.items refl)
