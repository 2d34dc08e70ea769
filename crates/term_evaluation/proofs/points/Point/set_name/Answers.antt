use Rattle.std.proofs.Common.{◌∙◌, ◌<◌, length, set, refl, sym, ap, subst, arith}
use Rattle.term_evaluation.specs.Slots.{IsSlotOf, value_in, values_in}
use Rattle.term_evaluation.specs.Points.{PointView, IsPointOf}
use Rattle.term_evaluation.proofs.SlotLemmas.{slots-set, values-set, length-values}
use Rattle.term_evaluation.proofs.PointLemmas.{nothing_kept, all_before}
use Rattle.term_evaluation.proofs.points.Point.set_name.Goals as goal

pub index_mut-requires : goal.index_mut-requires
index_mut-requires c =
    let low = subst (λ (y : PointView). c.args.place < length y.values) (sym c.self.view_is) c.requires.place in
    omega (arith, low, length-values c.self.inside.pool c.self.inside.names.items, c.self.inside.names.ok.0)

pub later-time-requires : goal.later-time-requires
later-time-requires c = c.self.invariant.2

pub invariant_of-self : goal.invariant_of-self
invariant_of-self c =
    let there = subst (λ (y : PointView). IsSlotOf y.pool c.args.slot) (sym c.self.view_is) c.requires.slot in
    (slots-set c.self.inside.pool c.self.inside.names.items c.args.place c.args.slot c.self.invariant.0 there, c.self.invariant.1, all_before c.later-time.new.stamps.items c.later-time.result c.later-time.ensures.stamps)

pub returns-clause-values : goal.returns-clause-values
returns-clause-values c =
    let p = c.self.inside.pool in
    let xs = c.self.inside.names.items in
    values-set p xs (set xs c.args.place c.args.slot) c.args.place c.args.slot (value_in p c.args.slot) refl refl ∙ ap (λ (y : PointView). set y.values c.args.place (value_in y.pool c.args.slot)) c.self.view_is

pub returns-clause-aside : goal.returns-clause-aside
returns-clause-aside c = ap (λ (y : PointView). y.aside) c.self.view_is

pub returns-clause-point : goal.returns-clause-point
returns-clause-point c g h =
    let p = c.self.inside.pool in
    let xs = c.self.inside.names.items in
    nothing_kept g (values_in p xs) (values_in p (set xs c.args.place c.args.slot)) p p c.self.inside.words.items c.self.inside.links.items c.self.inside.stamps.items c.later-time.new.stamps.items c.self.inside.time c.later-time.result
    (subst (λ (y : PointView). IsPointOf g y) (sym c.self.view_is) h) c.later-time.ensures.length c.later-time.ensures.stamps
