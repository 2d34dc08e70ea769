use Rattle.std.proofs.Common.{◌∙◌, sym, ap, subst}
use Rattle.term_evaluation.specs.Slots.{values_in}
use Rattle.term_evaluation.specs.Points.{PointView, IsPointOf}
use Rattle.term_evaluation.proofs.SlotLemmas.{slots_kept}
use Rattle.term_evaluation.proofs.PendingLemmas.{kept_over, kept_at}
use Rattle.term_evaluation.proofs.points.Point.add_value.Goals as goal

pub invariant_of-self : goal.invariant_of-self
invariant_of-self c =
    let q = c.slot_of.new.pool in
    let names = slots_kept c.self.inside.pool q c.self.inside.names.items c.slot_of.ensures.keeps c.self.invariant.0 in
    let aside = slots_kept c.self.inside.pool q c.self.inside.aside.items c.slot_of.ensures.keeps c.self.invariant.1 in
    (names.0, aside.0, c.self.invariant.2)

pub returns-clause-values : goal.returns-clause-values
returns-clause-values c = (slots_kept c.self.inside.pool c.slot_of.new.pool c.self.inside.names.items c.slot_of.ensures.keeps c.self.invariant.0).1 ∙ ap (λ (y : PointView). y.values) c.self.view_is

pub returns-clause-aside : goal.returns-clause-aside
returns-clause-aside c = (slots_kept c.self.inside.pool c.slot_of.new.pool c.self.inside.aside.items c.slot_of.ensures.keeps c.self.invariant.1).1 ∙ ap (λ (y : PointView). y.aside) c.self.view_is

pub returns-clause-point : goal.returns-clause-point
returns-clause-point c g h =
    let p = c.self.inside.pool in
    let q = c.slot_of.new.pool in
    let xs = c.self.inside.names.items in
    let same = (slots_kept p q xs c.slot_of.ensures.keeps c.self.invariant.0).1 in
    let old = subst (λ (y : PointView). IsPointOf g y) (sym c.self.view_is) h in
    kept_at g (values_in p xs) (values_in q xs) q c.self.inside.words.items c.self.inside.links.items c.self.inside.stamps.items c.self.inside.time (sym same)
    (kept_over g (values_in p xs) p q c.self.inside.words.items c.self.inside.links.items c.self.inside.stamps.items c.self.inside.time c.slot_of.ensures.keeps old)
