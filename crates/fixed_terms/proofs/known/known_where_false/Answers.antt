use Rattle.std.proofs.Common.{◌∙◌, ◌<◌, ◌-◌, Vec, Global, Bool, Option, None, ℕ, replicate, rules, length, ap, sym, subst, arith}
use Rattle.fixed_terms.specs.Fixed.{AreKnown}
use Rattle.fixed_terms.proofs.Knowing.{known_first, known_more, known_case, read_known}
use Rattle.fixed_terms.proofs.Likeness.{all_below_more}
use Rattle.wb_terms.specs.Graph.{operands_of, tree_of_node}
use Rattle.fixed_terms.proofs.known.known_where_false.Goals.{in-Some+in-Some-condition_of_bit, in-Some+in_default-condition_of_bit, in_default}
use Rattle.fixed_terms.proofs.known.known_where_false.Goals as goal

pub loop-done-init : goal.loop-done-init
loop-done-init c =
    known_first c.args.terms.now c.args.id.0 c.in_ok-known.known.items c.requires.id
    (c.in_ok-known.ensures.items_if_clones_equal (λ y same. search rules) ∙ ap (λ (n : ℕ). replicate n None) c.len.ensures.terms)

pub loop-done-preserved : goal.loop-done-preserved
loop-done-preserved c =
    let g = c.args.terms.now in
    let l = c.loop-done in
    let id = c.args.id.0 in
    let place = id - l.done in
    let room = l.invariant.room in
    let within : place < length l.known.items = omega (arith, c.requires.id.below, room) in
    elim c.match-index.branch [
      | in-Some+in-Some-condition_of_bit w ↦
          let n = w.node_of-node.result in
          let is = w.node_of-node.ensures in
          let at = l.invariant.follows place w.in-Some.truth within (read_known l.known.items place c.index.result.now w.in-Some.truth within c.index.ensures w.in-Some.is) in
          let told = subst (AreKnown g id) (sym w.tell.ensures) (known_more g id place n w.in-Some.truth l.known.items c.requires.sorts is.tree is.over within at l.invariant) in
          subst (AreKnown g id) (sym (ap (λ (v : Vec (Option Bool) Global). v.items) w.known-is))
          (known_case g id place w.in-Some-condition_of_bit.condition.0 (tree_of_node g n) w.in-Some.truth w.tell.new.known.items c.requires.sorts is.tree at w.in-Some-condition_of_bit.ensures told)
      | in-Some+in_default-condition_of_bit w ↦
          let is = w.node_of-node.ensures in
          let at = l.invariant.follows place w.in-Some.truth within (read_known l.known.items place c.index.result.now w.in-Some.truth within c.index.ensures w.in-Some.is) in
          subst (AreKnown g id) (sym (ap (λ (v : Vec (Option Bool) Global). v.items) w.known-is ∙ w.tell.ensures))
          (known_more g id place w.node_of-node.result w.in-Some.truth l.known.items c.requires.sorts is.tree is.over within at l.invariant)
      | in_default w ↦ subst (AreKnown g id) (sym (ap (λ (v : Vec (Option Bool) Global). v.items) w.known-is)) l.invariant
    ]

pub tell-requires : goal.tell-requires
tell-requires c = all_below_more (c.args.id.0 - c.loop-done.done) (length c.loop-done.known.items) (operands_of c.node_of-node.result) (omega (arith, c.requires.id.below, c.loop-done.invariant.room)) c.node_of-node.ensures.over.operands

pub index-requires : goal.index-requires
index-requires c = omega (arith, c.requires.id.below, c.loop-done.invariant.room, c.loop-done.known.ok.0)

pub condition_of_bit-requires : goal.condition_of_bit-requires
condition_of_bit-requires c = all_below_more (c.args.id.0 - c.loop-done.done) (length c.args.terms.now.nodes) (operands_of c.node_of-node.result) (omega (arith, c.requires.id.below)) c.node_of-node.ensures.over.operands

pub node_of-node-requires : goal.node_of-node-requires
node_of-node-requires c = omega (arith, c.requires.id.below)
