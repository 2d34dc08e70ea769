use Rattle.std.proofs.Common.{◌≡◌, ◌∙◌, length, sym, subst, arith}
use Rattle.std.specs.Prelude.{IsSome}
use Rattle.model_meaning.specs.Term.{sort_of}
use Rattle.wb_terms.specs.declared.nodes.Node.{Node}
use Rattle.wb_terms.specs.Graph.{IsOver, tree_of_node, with_node, operands_of}
use Rattle.term_copies.proofs.Copying.{over_is_over, over_is_sorted, put_is_copy}
use Rattle.wanted_terms.proofs.Wanted.{all_below_more}
use Rattle.wanted_terms.proofs.copying.put_copy.Goals as goal

pub over_copies-requires : goal.over_copies-requires
over_copies-requires c = all_below_more c.args.id.0 (length c.args.copies.now) (operands_of c.node_of-node.result) (omega (arith, c.requires.id, c.requires.room)) c.node_of-node.ensures.over.operands

pub put-requires-clause-over : goal.put-requires-clause-over
put-requires-clause-over c =
    let n = c.node_of-node.result in
    let g = c.args.terms.now in
    subst (λ (m : Node). IsOver g (length g.nodes) m) (sym c.over_copies.ensures)
    (over_is_over g c.args.source.now c.args.leaves.now c.args.copies.now n (sym c.leaf_name.ensures ∙ c.in-None.is) (c.requires.operands n c.node_of-node.ensures.put))

pub put-requires-clause-sorted : goal.put-requires-clause-sorted
put-requires-clause-sorted c =
    let n = c.node_of-node.result in
    let g = c.args.terms.now in
    subst (λ (m : Node). IsSome (sort_of (tree_of_node g m))) (sym c.over_copies.ensures)
    (over_is_sorted g c.args.source.now c.args.leaves.now c.args.copies.now n c.args.id.0 (sym c.leaf_name.ensures ∙ c.in-None.is) (c.requires.operands n c.node_of-node.ensures.put) c.node_of-node.ensures.tree c.node_of-node.ensures.sorted)

pub returns-in_ok-copy-in-None-clause-copy : goal.returns-in_ok-copy-in-None-clause-copy
returns-in_ok-copy-in-None-clause-copy c =
    let g = c.args.terms.now in
    let source = c.args.source.now in
    let leaves = c.args.leaves.now in
    let ids = c.args.copies.now in
    let n = c.node_of-node.result in
    let put = subst (λ (m : Node). c.put.new.terms ≡ with_node g m) c.over_copies.ensures c.in_ok-copy-in-None.ensures.ok in
    put_is_copy g c.put.new.terms source leaves ids n c.in_ok-copy-in-None.copy.0 c.args.id.0 (sym c.leaf_name.ensures ∙ c.in-None.is) (c.requires.operands n c.node_of-node.ensures.put) c.requires.leaves
    c.node_of-node.ensures.tree c.in_ok-copy-in-None.ensures.id put
