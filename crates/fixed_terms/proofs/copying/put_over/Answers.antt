use Rattle.std.proofs.Common.{◌∙◌, length, ap, sym, subst, arith}
use Rattle.std.specs.Prelude.{IsSome}
use Rattle.model_meaning.specs.Term.{sort_of}
use Rattle.wb_terms.specs.declared.nodes.Node.{Node}
use Rattle.wb_terms.specs.Graph.{IsOver, operands_of, tree_of_node}
use Rattle.fixed_terms.proofs.Likeness.{all_below_more, have_same, over_is_over, over_is_sorted, same_over}
use Rattle.fixed_terms.proofs.copying.put_over.Goals as goal

pub has_changed-requires : goal.has_changed-requires
has_changed-requires c = all_below_more c.args.id.0 (length c.args.copies.now) (operands_of c.node_of-node.result) (omega (arith, c.requires.id)) c.node_of-node.ensures.over.operands

pub over_copies-requires : goal.over_copies-requires
over_copies-requires c = all_below_more c.args.id.0 (length c.args.copies.now) (operands_of c.node_of-node.result) (omega (arith, c.requires.id)) c.node_of-node.ensures.over.operands

pub put-requires-clause-over : goal.put-requires-clause-over
put-requires-clause-over c =
    let g = c.args.terms.now in
    let n = c.node_of-node.result in
    let same = have_same g c.args.fixes.now c.args.copies.now c.args.id.0 (operands_of n) c.requires.copies (omega (arith, c.requires.id)) c.node_of-node.ensures.over.operands in
    subst (λ (m : Node). IsOver g (length g.nodes) m) (sym c.over_copies.ensures) (over_is_over g c.args.fixes.now c.args.copies.now n c.args.id.0 c.node_of-node.ensures.over same)

pub put-requires-clause-sorted : goal.put-requires-clause-sorted
put-requires-clause-sorted c =
    let g = c.args.terms.now in
    let n = c.node_of-node.result in
    let same = have_same g c.args.fixes.now c.args.copies.now c.args.id.0 (operands_of n) c.requires.copies (omega (arith, c.requires.id)) c.node_of-node.ensures.over.operands in
    subst (λ (m : Node). IsSome (sort_of (tree_of_node g m))) (sym c.over_copies.ensures) (over_is_sorted g c.args.fixes.now c.args.copies.now n c.args.id.0 same c.node_of-node.ensures.tree c.node_of-node.ensures.sorted)

pub returns-clause-copy : goal.returns-clause-copy
returns-clause-copy c =
    let g = c.args.terms.now in
    let n = c.node_of-node.result in
    let made = c.in_ok-copy.ensures in
    let same = have_same g c.args.fixes.now c.args.copies.now c.args.id.0 (operands_of n) c.requires.copies (omega (arith, c.requires.id)) c.node_of-node.ensures.over.operands in
    same_over g c.put.new.terms c.args.fixes.now c.args.copies.now n c.in_ok-copy.copy.0 c.args.id.0 made.extended c.requires.fixes same (omega (arith, c.requires.id, c.requires.copies.room)) c.node_of-node.ensures.tree
    made.below (made.tree ∙ ap (tree_of_node g) c.over_copies.ensures)

pub node_of-node-requires : goal.node_of-node-requires
node_of-node-requires c = omega (arith, c.requires.id, c.requires.copies.room)
