use Rattle.std.proofs.Common.{◌≡◌, ◌<◌, length, get_or, sym, subst, arith}
use Rattle.wb_values.specs.Value.{number}
use Rattle.term_evaluation.specs.Slots.{IsSlotOf, value_in}
use Rattle.term_evaluation.specs.Points.{PointView}
use Rattle.term_evaluation.proofs.SlotLemmas.{slots-read, values-read, length-values}
use Rattle.term_evaluation.proofs.points.Point.slot_aside.Goals as goal

pub index-slot-requires : goal.index-slot-requires
index-slot-requires c =
    let low = subst (λ (y : PointView). c.args.from < length y.aside) (sym c.self.view_is) c.requires in
    omega (arith, low, length-values c.self.inside.pool c.self.inside.aside.items, c.self.inside.aside.ok.0)

pub returns-clause-slot : goal.returns-clause-slot
returns-clause-slot c =
    let p = c.self.inside.pool in
    let xs = c.self.inside.aside.items in
    let low = subst (λ (y : PointView). c.args.from < length y.aside) (sym c.self.view_is) c.requires in
    subst (λ (y : PointView). IsSlotOf y.pool c.index-slot.result.now) c.self.view_is (slots-read p xs c.args.from c.index-slot.result.now c.self.invariant.1 (omega (arith, low, length-values p xs)) c.index-slot.ensures)

pub returns-clause-value : goal.returns-clause-value
returns-clause-value c =
    let p = c.self.inside.pool in
    let xs = c.self.inside.aside.items in
    let k = c.args.from in
    let low = subst (λ (y : PointView). k < length y.aside) (sym c.self.view_is) c.requires in
    subst (λ (y : PointView). value_in y.pool c.index-slot.result.now ≡ get_or y.aside k (number 0)) c.self.view_is
    (sym (values-read p xs k c.index-slot.result.now (number 0) (omega (arith, low, length-values p xs)) c.index-slot.ensures))
