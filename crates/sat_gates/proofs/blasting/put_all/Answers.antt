use Rattle.std.proofs.Common.{◌≡◌, ◌∙◌, ◌<◌, length, ap, sym, subst, List}
use Rattle.std.specs.Prelude.{nat_eq}
use Rattle.std.specs.HashMap.{get}
use Rattle.model_meaning.specs.Term.{Term}
use Rattle.gate_words.proofs.Growing.{same, onward}
use Rattle.wb_terms.specs.Graph.{tree, operands_of}
use Rattle.sat_gates.specs.Names.{is_blastable}
use Rattle.sat_gates.specs.Cone.{places}
use Rattle.sat_gates.specs.Layout.{variables_of}
use Rattle.sat_gates.specs.Blasting.{AreBitsOf, HasBits}
use Rattle.sat_gates.proofs.AllBits.{node_variables, node_operands, blasted_more}
use Rattle.sat_gates.proofs.Reached.{nothing_done, root_done, term_at, place_at, place_below, places_end}
use Rattle.sat_gates.proofs.blasting.put_all.Goals as goal

pub loop-place-init : goal.loop-place-init
loop-place-init c =
    let g = c.args.terms.now in
    (same c.args.circuit.now, nothing_done (HasBits g c.args.root.0 (variables_of g.names c.args.map.now) c.args.circuit.now (get nat_eq c.new-bits.result)) (places c.args.ids.now))

pub node-requires : goal.node-requires
node-requires c =
    (c.requires.parts c.term_in-id.result.0 (term_at c.args.terms.now c.args.root.0 c.args.ids.now c.loop-place.place c.term_in-id.result c.requires.cone c.loop-place-test.true c.term_in-id.ensures)).0

pub put_node-requires-clause-variables : goal.put_node-requires-clause-variables
put_node-requires-clause-variables c =
    let x = c.term_in-id.result in
    let stands = term_at c.args.terms.now c.args.root.0 c.args.ids.now c.loop-place.place x c.requires.cone c.loop-place-test.true c.term_in-id.ensures in
    node_variables c.args.terms.now c.args.root.0 x.0 c.args.map.now c.args.circuit.now.inputs c.loop-place.circuit.inputs c.node.result.now
    c.requires.parts stands c.node.ensures.tree c.node.ensures.over c.requires.variables c.loop-place.invariant.0.inputs

pub put_node-requires-clause-operands : goal.put_node-requires-clause-operands
put_node-requires-clause-operands c =
    let g = c.args.terms.now in
    let ids = c.args.ids.now in
    let place = c.loop-place.place in
    let x = c.term_in-id.result in
    let i = c.loop-place-test.true in
    node_operands g c.args.root.0 (places ids) place x.0 (variables_of g.names c.args.map.now) c.loop-place.circuit (get nat_eq c.loop-place.bits) c.node.result.now c.requires.cone
    (place_below ids place i) (place_at ids place x i c.term_in-id.ensures) c.node.ensures.put c.node.ensures.over.operands c.loop-place.invariant.1

pub put_node-requires-clause-blastable : goal.put_node-requires-clause-blastable
put_node-requires-clause-blastable c =
    let x = c.term_in-id.result in
    let stands = term_at c.args.terms.now c.args.root.0 c.args.ids.now c.loop-place.place x c.requires.cone c.loop-place-test.true c.term_in-id.ensures in
    ap is_blastable (sym c.node.ensures.tree) ∙ (c.requires.parts x.0 stands).1.blastable c.requires.blastable

pub loop-place-preserved : goal.loop-place-preserved
loop-place-preserved c =
    let g = c.args.terms.now in
    let t = tree g c.args.root.0 in
    let m = variables_of g.names c.args.map.now in
    let ids = c.args.ids.now in
    let place = c.loop-place.place in
    let x = c.term_in-id.result in
    let w = c.in_ok-word in
    let bits = subst (λ (u : Term). AreBitsOf t m c.put_node.new.circuit u w.word.items) (sym c.node.ensures.tree) w.ensures.bits in (
      onward c.loop-place.invariant.0 w.ensures.grows,
      blasted_more g c.args.root.0 (places ids) place x.0 m c.loop-place.circuit c.put_node.new.circuit (get nat_eq c.loop-place.bits) (get nat_eq c.insert.new.self) w.word w.ensures.grows
          (place_at ids place x c.loop-place-test.true c.term_in-id.ensures) c.in_ok-insert.ensures.updates.0 bits c.loop-place.invariant.1,
    )

pub returns-clause-bits : goal.returns-clause-bits
returns-clause-bits c =
    let g = c.args.terms.now in
    root_done (HasBits g c.args.root.0 (variables_of g.names c.args.map.now) c.loop-place.circuit (get nat_eq c.loop-place.bits)) g c.args.root.0 (places c.args.ids.now) c.loop-place.place
    c.requires.cone (places_end c.args.ids.now c.loop-place.place c.loop-place-test.false) c.loop-place.invariant.1
