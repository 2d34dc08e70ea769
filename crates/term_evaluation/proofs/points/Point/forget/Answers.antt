use Rattle.std.proofs.Common.{◌∙◌, take, sym, ap, subst}
use Rattle.std.proofs.lemmas.List.{take-map}
use Rattle.term_evaluation.specs.Points.{PointView, IsPointOf}
use Rattle.term_evaluation.specs.Slots.{value_in, values_in}
use Rattle.term_evaluation.proofs.SlotLemmas.{slots-take}
use Rattle.term_evaluation.proofs.points.Point.forget.Goals as goal

pub invariant_of-self : goal.invariant_of-self
invariant_of-self c = (c.self.invariant.0, rw c.truncate.ensures.items (slots-take c.self.inside.pool c.self.inside.aside.items c.args.len c.self.invariant.1), c.self.invariant.2)

pub returns-clause-values : goal.returns-clause-values
returns-clause-values c = ap (λ (y : PointView). y.values) c.self.view_is

pub returns-clause-aside : goal.returns-clause-aside
returns-clause-aside c =
    let p = c.self.inside.pool in
    ap (values_in p) c.truncate.ensures.items ∙ sym (take-map (value_in p) c.args.len c.self.inside.aside.items) ∙ ap (λ (y : PointView). take c.args.len y.aside) c.self.view_is

pub returns-clause-point : goal.returns-clause-point
returns-clause-point c g h = subst (λ (y : PointView). IsPointOf g y) (sym c.self.view_is) h
