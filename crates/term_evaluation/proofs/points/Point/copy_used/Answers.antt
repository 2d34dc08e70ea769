use Rattle.std.proofs.Common.{◌∙◌, ap}
use Rattle.term_evaluation.specs.Points.{PointView}
use Rattle.term_evaluation.proofs.SlotLemmas.{slots_kept}
use Rattle.term_evaluation.proofs.points.Point.copy_used.Goals as goal

pub copy_slots-requires-clause-slots : goal.copy_slots-requires-clause-slots
copy_slots-requires-clause-slots c = c.self.invariant.0

pub copy_slots-requires-2-clause-slots : goal.copy_slots-requires-2-clause-slots
copy_slots-requires-2-clause-slots c = c.self.invariant.1

pub take_parts-requires-clause-names : goal.take_parts-requires-clause-names
take_parts-requires-clause-names c = (slots_kept c.copy_slots.new.to c.copy_slots-2.new.to c.in_ok-names.names.items c.in_ok-aside.ensures.keeps c.in_ok-names.ensures.slots).0

pub take_parts-requires-clause-values : goal.take_parts-requires-clause-values
take_parts-requires-clause-values c =
    (slots_kept c.copy_slots.new.to c.copy_slots-2.new.to c.in_ok-names.names.items c.in_ok-aside.ensures.keeps c.in_ok-names.ensures.slots).1 ∙ c.in_ok-names.ensures.values ∙ ap (λ (y : PointView). y.values) c.self.view_is

pub take_parts-requires-clause-kept : goal.take_parts-requires-clause-kept
take_parts-requires-clause-kept c = c.in_ok-aside.ensures.values ∙ ap (λ (y : PointView). y.aside) c.self.view_is
