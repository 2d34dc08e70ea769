use Rattle.std.proofs.Common.{sym, subst}
use Rattle.term_evaluation.specs.Slots.{values_in}
use Rattle.term_evaluation.specs.Points.{PointView, IsPointOf}
use Rattle.term_evaluation.proofs.PointLemmas.{nothing_kept, all_before}
use Rattle.term_evaluation.proofs.points.Point.take_parts.Goals as goal

pub later-time-requires : goal.later-time-requires
later-time-requires c = c.self.invariant.2

pub invariant_of-self : goal.invariant_of-self
invariant_of-self c = (c.requires.names, c.requires.aside, all_before c.later-time.new.stamps.items c.later-time.result c.later-time.ensures.stamps)

pub returns-clause-point : goal.returns-clause-point
returns-clause-point c g h =
    nothing_kept g (values_in c.self.inside.pool c.self.inside.names.items) (values_in c.args.pool c.args.names.items) c.self.inside.pool c.args.pool c.self.inside.words.items c.self.inside.links.items c.self.inside.stamps.items
    c.later-time.new.stamps.items c.self.inside.time c.later-time.result (subst (λ (y : PointView). IsPointOf g y) (sym c.self.view_is) h) c.later-time.ensures.length c.later-time.ensures.stamps
