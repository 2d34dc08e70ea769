use Rattle.std.proofs.Common.{◌≡◌, sym, subst, arith}
use Rattle.std.proofs.lemmas.List.{get_or_read}
use Rattle.model_meaning.specs.Term.{sort_of}
use Rattle.wb_terms.specs.Graph.{tree}
use Rattle.wb_terms.specs.Environment.{HasSortOf}
use Rattle.term_evaluation.specs.Slots.{IsSlotOf, value_in, values_in}
use Rattle.term_evaluation.specs.Links.{value_at}
use Rattle.term_evaluation.specs.Points.{PointView, IsPointOf, IsHeldAt}
use Rattle.wb_terms.proofs.HeldLemmas.{HasSortOf-held}
use Rattle.term_evaluation.proofs.LinkLemmas.{word_read, link_read}
use Rattle.term_evaluation.proofs.points.Point.held_slot.Goals as goal

pub index-word-requires : goal.index-word-requires
index-word-requires c =
    let point = subst (λ (y : PointView). IsPointOf c.args.terms.now y) (sym c.self.view_is) c.requires.point in
    let room = point.0 in
    omega (arith, c.requires.id, room, c.self.inside.words.ok.0)

pub index-link-requires : goal.index-link-requires
index-link-requires c =
    let point = subst (λ (y : PointView). IsPointOf c.args.terms.now y) (sym c.self.view_is) c.requires.point in
    let room = point.1 in
    omega (arith, c.requires.id, room, c.self.inside.links.ok.0)

pub returns-clause-slot : goal.returns-clause-slot
returns-clause-slot c =
    let g = c.args.terms.now in
    let k = c.args.id.0 in
    let p = c.self.inside.pool in
    let xs = values_in p c.self.inside.names.items in
    let point = subst (λ (y : PointView). IsPointOf g y) (sym c.self.view_is) c.requires.point in
    let room = point.1 in
    let held = subst (λ (y : PointView). IsHeldAt g y k) (sym c.self.view_is) c.requires.held in
    let w = word_read g xs c.self.inside.words.items k c.index-word.result.now held.0 c.index-word.ensures in
    let l = link_read g xs p c.self.inside.links.items k c.index-link.result.now held.1 (get_or_read c.self.inside.links.items k c.index-link.result.now (omega (arith, c.requires.id, room)) c.index-link.ensures (record { 0 = 0 })) in
    subst (λ (y : PointView). IsSlotOf y.pool c.slot_of_term.result) c.self.view_is (c.slot_of_term.ensures.slot _ (rw c.sort.ensures.sort at w) (rw c.sort.ensures.sort at l))

pub returns-clause-value : goal.returns-clause-value
returns-clause-value c =
    let g = c.args.terms.now in
    let k = c.args.id.0 in
    let p = c.self.inside.pool in
    let xs = values_in p c.self.inside.names.items in
    let point = subst (λ (y : PointView). IsPointOf g y) (sym c.self.view_is) c.requires.point in
    let room = point.1 in
    let held = subst (λ (y : PointView). IsHeldAt g y k) (sym c.self.view_is) c.requires.held in
    let w = word_read g xs c.self.inside.words.items k c.index-word.result.now held.0 c.index-word.ensures in
    let l = link_read g xs p c.self.inside.links.items k c.index-link.result.now held.1 (get_or_read c.self.inside.links.items k c.index-link.result.now (omega (arith, c.requires.id, room)) c.index-link.ensures (record { 0 = 0 })) in
    subst (λ (y : PointView). value_in y.pool c.slot_of_term.result ≡ value_at g y.values k) c.self.view_is (c.slot_of_term.ensures.value _ (rw c.sort.ensures.sort at w) (rw c.sort.ensures.sort at l))

pub returns-clause-sorted : goal.returns-clause-sorted
returns-clause-sorted c =
    let g = c.args.terms.now in
    let k = c.args.id.0 in
    let held = subst (λ (y : PointView). IsHeldAt g y k) (sym c.self.view_is) c.requires.held in
    subst (λ (y : PointView). HasSortOf (value_at g y.values k) (sort_of (tree g k))) c.self.view_is
    (HasSortOf-held _ _ _ _ (word_read g (values_in c.self.inside.pool c.self.inside.names.items) c.self.inside.words.items k c.index-word.result.now held.0 c.index-word.ensures))
