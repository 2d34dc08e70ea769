use Rattle.std.proofs.Common.{◌∙◌, sym, ap, subst, arith}
use Rattle.wb_values.specs.Value.{numeral_of}
use Rattle.wb_terms.specs.Environment.{HasSortOf}
use Rattle.model_meaning.specs.Term.{sort_of}
use Rattle.wb_terms.specs.Graph.{tree}
use Rattle.term_evaluation.specs.Slots.{values_in}
use Rattle.term_evaluation.specs.Links.{value_at}
use Rattle.term_evaluation.specs.Points.{PointView, IsPointOf, IsHeldAt}
use Rattle.wb_terms.proofs.HeldLemmas.{HasSortOf-held}
use Rattle.term_evaluation.proofs.LinkLemmas.{word_read}
use Rattle.term_evaluation.proofs.PointLemmas.{numeral_held}
use Rattle.term_evaluation.proofs.points.Point.held_number.Goals as goal

pub index-word-requires : goal.index-word-requires
index-word-requires c =
    let point = subst (λ (y : PointView). IsPointOf c.args.terms.now y) (sym c.self.view_is) c.requires.point in
    let room = point.0 in
    omega (arith, c.requires.id, room, c.self.inside.words.ok.0)

pub returns-clause-number : goal.returns-clause-number
returns-clause-number c =
    let g = c.args.terms.now in
    let k = c.args.id.0 in
    let held = subst (λ (y : PointView). IsHeldAt g y k) (sym c.self.view_is) c.requires.held in
    numeral_held _ _ _ _ (word_read g (values_in c.self.inside.pool c.self.inside.names.items) c.self.inside.words.items k c.index-word.result.now held.0 c.index-word.ensures)
    ∙ ap (λ (y : PointView). numeral_of (value_at g y.values k)) c.self.view_is

pub returns-clause-sorted : goal.returns-clause-sorted
returns-clause-sorted c =
    let g = c.args.terms.now in
    let k = c.args.id.0 in
    let held = subst (λ (y : PointView). IsHeldAt g y k) (sym c.self.view_is) c.requires.held in
    subst (λ (y : PointView). HasSortOf (value_at g y.values k) (sort_of (tree g k))) c.self.view_is
    (HasSortOf-held _ _ _ _ (word_read g (values_in c.self.inside.pool c.self.inside.names.items) c.self.inside.words.items k c.index-word.result.now held.0 c.index-word.ensures))
