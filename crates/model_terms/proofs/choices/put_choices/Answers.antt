use Rattle.std.proofs.Common.{◌≡◌, ◌∙◌, ◌<◌, ◌+◌, List, length, refl, sym, ap, subst, arith}
use Rattle.model_meaning.specs.Term.{sort_of}
use Rattle.wb_terms.specs.declared.nodes.TermId.{TermId}
use Rattle.wb_terms.specs.Graph.{tree}
use Rattle.term_copies.specs.Copies.{id_at, declared_at}
use Rattle.term_copies.proofs.Extending.{count_grows, tree_kept, extended_trans}
use Rattle.model_terms.proofs.Choosing.{IsChoosing, choosing_start, choosing_more, choosing_leaves, choosing_values, condition_kept, is_some_of}
use Rattle.model_terms.proofs.choices.put_choices.Goals as goal

pub loop-place-init : goal.loop-place-init
loop-place-init c =
    let g = c.args.terms.now in
    subst (λ (ids : List TermId). IsChoosing g g c.args.source.now.names c.args.condition.0 c.args.xs.now c.args.ys.now 0 ids) (sym c.in_ok-chosen.ensures.items)
    (choosing_start g c.args.source.now.names c.args.condition.0 c.args.xs.now c.args.ys.now)

pub put_choice-requires-clause-condition : goal.put_choice-requires-clause-condition
put_choice-requires-clause-condition c = condition_kept c.args.condition.0 c.loop-place.invariant.extended c.requires.condition

pub put_choice-requires-clause-first : goal.put_choice-requires-clause-first
put_choice-requires-clause-first c =
    let within : c.loop-place.place < length c.args.source.now.names = omega (arith, c.loop-place-test.true, c.requires.first.count) in
    omega (arith, c.requires.first.below c.loop-place.place within, count_grows c.loop-place.invariant.extended)

pub put_choice-requires-clause-second : goal.put_choice-requires-clause-second
put_choice-requires-clause-second c =
    let within : c.loop-place.place < length c.args.source.now.names = omega (arith, c.loop-place-test.true, c.requires.first.count) in
    omega (arith, c.requires.second.below c.loop-place.place within, count_grows c.loop-place.invariant.extended)

pub put_choice-requires-clause-sorted : goal.put_choice-requires-clause-sorted
put_choice-requires-clause-sorted c =
    let k = c.loop-place.place in
    let within : k < length c.args.source.now.names = omega (arith, c.loop-place-test.true, c.requires.first.count) in
    is_some_of _ (declared_at c.args.source.now.names k).1 (ap sort_of (tree_kept (id_at c.args.xs.now k) c.loop-place.invariant.extended (c.requires.first.below k within)) ∙ c.requires.first.sort k within)

pub put_choice-requires-clause-same : goal.put_choice-requires-clause-same
put_choice-requires-clause-same c =
    let k = c.loop-place.place in
    let e = c.loop-place.invariant.extended in
    let within : k < length c.args.source.now.names = omega (arith, c.loop-place-test.true, c.requires.first.count) in
    ap sort_of (tree_kept (id_at c.args.ys.now k) e (c.requires.second.below k within)) ∙ c.requires.second.sort k within
    ∙ sym (ap sort_of (tree_kept (id_at c.args.xs.now k) e (c.requires.first.below k within)) ∙ c.requires.first.sort k within)

pub loop-place-preserved : goal.loop-place-preserved
loop-place-preserved c =
    let l = c.loop-place in
    let g = c.args.terms.now in
    let ns = c.args.source.now.names in
    let within : l.place < length ns = omega (arith, c.loop-place-test.true, c.requires.first.count) in
    subst (λ (ids : List TermId). IsChoosing g c.put_choice.new.terms ns c.args.condition.0 c.args.xs.now c.args.ys.now (l.place + 1) ids) (sym c.in_ok-push.ensures.items)
    (choosing_more g l.terms c.put_choice.new.terms ns c.args.condition.0 c.args.xs.now c.args.ys.now l.place l.chosen.items c.in_ok-id.id within c.requires.first c.requires.second c.requires.condition
    c.in_ok-id.ensures.extended c.in_ok-id.ensures.below c.in_ok-id.ensures.sort c.in_ok-id.ensures.value l.invariant)

pub returns-clause-leaves : goal.returns-clause-leaves
returns-clause-leaves c =
    let l = c.loop-place in
    choosing_leaves c.args.terms.now l.terms c.args.source.now.names c.args.condition.0 c.args.xs.now c.args.ys.now l.place l.chosen.items
    (omega (arith, c.loop-place-test.false, c.requires.first.count, l.auto.place-end)) l.invariant

pub returns-clause-values : goal.returns-clause-values
returns-clause-values c v =
    let l = c.loop-place in
    choosing_values c.args.terms.now l.terms c.args.source.now.names c.args.condition.0 c.args.xs.now c.args.ys.now l.place l.chosen.items v
    (omega (arith, c.loop-place-test.false, c.requires.first.count, l.auto.place-end)) c.requires.first c.requires.second l.invariant
