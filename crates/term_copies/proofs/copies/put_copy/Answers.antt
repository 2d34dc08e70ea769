use Rattle.std.proofs.Common.{◌≡◌, ◌∙◌, ◌<◌, length, ap, sym, subst}
use Rattle.std.specs.Prelude.{IsSome}
use Rattle.model_meaning.specs.Term.{sort_of}
use Rattle.wb_terms.specs.declared.nodes.Node.{Node}
use Rattle.wb_terms.specs.Graph.{IsOver, Graph, tree_of_node, with_node, operands_of}
use Rattle.term_copies.specs.Copies.{IsExtended, IsCopy, over_copies}
use Rattle.term_copies.proofs.Extending.{extended_by, extended_same, extended_refl}
use Rattle.term_copies.proofs.Copying.{have_copies, over_is_over, over_is_sorted, put_is_copy, leaf_is_copy}
use Rattle.term_copies.proofs.copies.put_copy.Goals as goal

pub returns-in_ok-copy-in-None-clause-copy : goal.returns-in_ok-copy-in-None-clause-copy
returns-in_ok-copy-in-None-clause-copy c =
    let g = c.args.terms.now in
    let source = c.args.source.now in
    let leaves = c.args.leaves.now in
    let ids = c.args.copies.now in
    let n = c.node_of-node.result in
    let copies = have_copies g source leaves ids c.args.id.0 (operands_of n) c.requires.earlier c.node_of-node.ensures.over.operands in
    let put = subst (λ (m : Node). c.put.new.terms ≡ with_node g m) c.over_copies.ensures c.in_ok-copy-in-None.ensures.ok in
    put_is_copy g c.put.new.terms source leaves ids n c.in_ok-copy-in-None.copy.0 c.args.id.0 (sym c.leaf_name.ensures ∙ c.in-None.is) copies c.requires.leaves
    c.node_of-node.ensures.tree c.in_ok-copy-in-None.ensures.id put
