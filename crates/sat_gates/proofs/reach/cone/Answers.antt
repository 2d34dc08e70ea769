use Rattle.std.proofs.Common.{◌≡◌, ◌∙◌, ◌<◌, [], ◌∷◌, List, reverse, length, ap, sym, subst}
use Rattle.std.proofs.lemmas.List.{reverse-append}
use Rattle.std.specs.Ordering.{nat_cmp}
use Rattle.std.specs.BTreeSet.{insert_key}
use Rattle.std.proofs.lemmas.Bool.{false≢true}
use Rattle.wb_terms.specs.declared.nodes.TermId.{TermId}
use Rattle.sat_gates.specs.Cone.{places}
use Rattle.sat_gates.proofs.Members.{emptied}
use Rattle.sat_gates.proofs.Reached.{IsWalk, least, walk_start, walk_next, walk_lower, walk_turn, walk_end, walk_parts}
use Rattle.sat_gates.proofs.reach.cone.Goals as goal

pub loop-place-init : goal.loop-place-init
loop-place-init c =
    subst (λ (ids : List TermId). IsWalk c.args.terms.now c.args.id.0 c.insert.new.self.keys (places (reverse ids))) (sym c.new-ids.ensures.items)
    (walk_start c.args.terms.now c.args.id.0 c.insert.new.self.keys c.requires
    (c.in_ok-insert.ensures.keys ∙ ap (λ ks. insert_key nat_cmp ks c.args.id.0) c.new-waiting.ensures.empty))

pub node-requires : goal.node-requires
node-requires c =
    walk_next c.args.terms.now c.args.id.0 c.in-Some.place c.loop-place.waiting.keys c.pop_last.new.self.keys (places (reverse c.loop-place.ids.items)) c.in-Some.ensures.removal c.loop-place.invariant

pub loop-place-preserved : goal.loop-place-preserved
loop-place-preserved c =
    let e = c.in-Some.ensures in
    walk_turn c.args.terms.now c.args.id.0 c.in-Some.place c.loop-place.waiting.keys c.pop_last.new.self.keys c.add_operands.new.waiting.keys
    (places (reverse c.loop-place.ids.items)) (places (reverse c.push.new.self.items)) c.node.result.now e.removal e.all_below
    c.node.ensures.put c.node.ensures.tree c.node.ensures.over.operands c.in_ok-add_operands.ensures
    (ap (λ (ids : List TermId). places (reverse ids)) c.in_ok-push.ensures.items ∙ ap places (reverse-append c.loop-place.ids.items (_ ∷ [])))
    c.loop-place.invariant

pub loop-place-smaller : goal.loop-place-smaller
loop-place-smaller c =
    let done = places (reverse c.loop-place.ids.items) in
    subst (λ ks. least c.args.id.0 ks < least c.args.id.0 done)
    (sym (ap (λ (ids : List TermId). places (reverse ids)) c.in_ok-push.ensures.items ∙ ap places (reverse-append c.loop-place.ids.items (_ ∷ []))))
    (walk_lower c.args.terms.now c.args.id.0 c.in-Some.place c.loop-place.waiting.keys c.pop_last.new.self.keys done c.in-Some.ensures.removal c.loop-place.invariant)

pub returns-clause-exact : goal.returns-clause-exact
returns-clause-exact c =
    walk_end c.args.terms.now c.args.id.0 c.loop-place.waiting.keys (places (reverse c.loop-place.ids.items)) _
    (emptied c.loop-place.waiting.keys (λ i. false≢true (c.in_default.ensures.variant.1 i))) (ap places c.reverse.ensures.items) c.loop-place.invariant

pub returns-clause-parts : goal.returns-clause-parts
returns-clause-parts c =
    walk_parts c.args.terms.now c.args.id.0 c.loop-place.waiting.keys (places (reverse c.loop-place.ids.items))
    (emptied c.loop-place.waiting.keys (λ i. false≢true (c.in_default.ensures.variant.1 i))) c.loop-place.invariant
