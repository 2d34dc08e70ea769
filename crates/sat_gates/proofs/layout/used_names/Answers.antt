use Rattle.sat_gates.specs.Cone.{places}
use Rattle.sat_gates.proofs.Using.{using_start, using_turn, using_end, using_below}
use Rattle.sat_gates.proofs.Reached.{term_at, place_at, place_below, places_end}
use Rattle.sat_gates.proofs.layout.used_names.Goals as goal

pub loop-place-init : goal.loop-place-init
loop-place-init c = using_start c.args.terms.now c.args.root.0 (places c.args.ids.now) c.new-used.result.keys c.new-used.ensures.empty

pub node-requires : goal.node-requires
node-requires c =
    (c.requires.parts c.term_in-id.result.0 (term_at c.args.terms.now c.args.root.0 c.args.ids.now c.loop-place.place c.term_in-id.result c.requires.cone c.loop-place-test.true c.term_in-id.ensures)).0

pub loop-place-preserved : goal.loop-place-preserved
loop-place-preserved c =
    let ids = c.args.ids.now in
    let place = c.loop-place.place in
    let x = c.term_in-id.result in
    let i = c.loop-place-test.true in
    using_turn c.args.terms.now c.args.root.0 (places ids) place x.0 c.loop-place.used.keys c.add_name.new.used.keys c.node.result.now c.requires.cone c.requires.parts
    (place_below ids place i) (place_at ids place x i c.term_in-id.ensures) c.node.ensures.put c.node.ensures.tree c.node.ensures.over c.in_ok-add_name.ensures c.loop-place.invariant

pub returns-clause-used : goal.returns-clause-used
returns-clause-used c =
    using_end c.args.terms.now c.args.root.0 (places c.args.ids.now) c.loop-place.place c.loop-place.used c.requires.cone (places_end c.args.ids.now c.loop-place.place c.loop-place-test.false) c.loop-place.invariant

pub returns-clause-below : goal.returns-clause-below
returns-clause-below c = using_below c.args.terms.now c.args.root.0 (places c.args.ids.now) c.loop-place.place c.loop-place.used.keys c.loop-place.invariant
