use Rattle.std.proofs.Common.{◌≡◌, ◌∙◌, ◌<◌, ◌≤◌, ◌++◌, [], ◌∷◌, List, Option, Some, None, length, ap, sym, subst, arith}
use Rattle.std.specs.Prelude.{IsSome, nat_eq}
use Rattle.std.specs.HashMap.{get}
use Rattle.model_meaning.specs.Term.{Term, sort_of}
use Rattle.wb_terms.specs.declared.nodes.Node.{Node}
use Rattle.wb_terms.specs.declared.nodes.Node.TheVariants.{Load}
use Rattle.wb_terms.specs.Graph.{IsOver, tree, tree_of_node, trees_of, operands_of}
use Rattle.ob_mem.specs.Images.{IsImage, renamed}
use Rattle.ob_mem.proofs.Counting.{one_counted, value_count, word_count}
use Rattle.ob_mem.proofs.Growing.{one_more}
use Rattle.ob_mem.proofs.Renaming.{all_there, renamed_over, renamed_sorted, value_image, load_node}
use Rattle.ob_mem.proofs.images.put_value.Goals as goal

pub put_word-requires-clause-memory : goal.put_word-requires-clause-memory
put_word-requires-clause-memory c =
    let e = load_node c.node_of-node.result c.in-Some.memory c.in-Some.address (sym c.in-Some.is ∙ c.load_parts.ensures) in
    let b = rw e at c.node_of-node.ensures.over.operands in
    omega (arith, b.0, c.requires.id)

pub put_word-requires-clause-address : goal.put_word-requires-clause-address
put_word-requires-clause-address c =
    let e = load_node c.node_of-node.result c.in-Some.memory c.in-Some.address (sym c.in-Some.is ∙ c.load_parts.ensures) in
    let b = rw e at c.node_of-node.ensures.over.operands in
    omega (arith, b.1.0, c.requires.id)

pub put_word-requires-clause-sorted : goal.put_word-requires-clause-sorted
put_word-requires-clause-sorted c =
    let e = load_node c.node_of-node.result c.in-Some.memory c.in-Some.address (sym c.in-Some.is ∙ c.load_parts.ensures) in
    let t = c.node_of-node.ensures.tree ∙ ap (tree_of_node c.args.old.now) e in
    subst (λ (x : Term). IsSome (sort_of x)) t c.node_of-node.ensures.sorted

pub put_word-requires-clause-there : goal.put_word-requires-clause-there
put_word-requires-clause-there c =
    let e = load_node c.node_of-node.result c.in-Some.memory c.in-Some.address (sym c.in-Some.is ∙ c.load_parts.ensures) in
    (rw e at (c.requires.images c.node_of-node.result c.node_of-node.ensures.put)).0.0

pub put_word-requires-clause-address_there : goal.put_word-requires-clause-address_there
put_word-requires-clause-address_there c =
    let e = load_node c.node_of-node.result c.in-Some.memory c.in-Some.address (sym c.in-Some.is ∙ c.load_parts.ensures) in
    (rw e at (c.requires.images c.node_of-node.result c.node_of-node.ensures.put)).1.0.0

pub put_word-requires-clause-image : goal.put_word-requires-clause-image
put_word-requires-clause-image c =
    let e = load_node c.node_of-node.result c.in-Some.memory c.in-Some.address (sym c.in-Some.is ∙ c.load_parts.ensures) in
    (rw e at (c.requires.images c.node_of-node.result c.node_of-node.ensures.put)).0.1 c.in-Some.memory

pub put_word-requires-clause-image_of_address : goal.put_word-requires-clause-image_of_address
put_word-requires-clause-image_of_address c =
    let e = load_node c.node_of-node.result c.in-Some.memory c.in-Some.address (sym c.in-Some.is ∙ c.load_parts.ensures) in
    (rw e at (c.requires.images c.node_of-node.result c.node_of-node.ensures.put)).1.0.1 c.in-Some.address

pub renamed-requires : goal.renamed-requires
renamed-requires c =
    all_there c.args.old.now.names c.args.list.now c.args.old.now c.args.terms.now (get nat_eq c.args.images.now) (operands_of c.node_of-node.result) (c.requires.images c.node_of-node.result c.node_of-node.ensures.put)

pub put-requires-clause-over : goal.put-requires-clause-over
put-requires-clause-over c =
    let g = c.args.old.now in
    let h = c.args.terms.now in
    let n = c.node_of-node.result in
    let o = c.requires.images n c.node_of-node.ensures.put in
    subst (IsOver h (length h.nodes)) (sym c.renamed.ensures)
    (renamed_over g h c.args.list.now (get nat_eq c.args.images.now) n c.args.id.0 c.requires.firsts.more c.node_of-node.ensures.tree c.node_of-node.ensures.over.names o c.node_of-node.ensures.sorted c.requires.sort
    (sym c.load_parts.ensures ∙ c.in-None.is))

pub put-requires-clause-sorted : goal.put-requires-clause-sorted
put-requires-clause-sorted c =
    let g = c.args.old.now in
    let h = c.args.terms.now in
    let n = c.node_of-node.result in
    let o = c.requires.images n c.node_of-node.ensures.put in
    subst (λ (m : Node). IsSome (sort_of (tree_of_node h m))) (sym c.renamed.ensures)
    (renamed_sorted g h c.args.list.now (get nat_eq c.args.images.now) n c.args.id.0 c.requires.firsts.same c.node_of-node.ensures.tree c.node_of-node.ensures.over.names o c.node_of-node.ensures.sorted c.requires.sort
    (sym c.load_parts.ensures ∙ c.in-None.is))

pub returns-in_ok-word-in-Some-clause-image : goal.returns-in_ok-word-in-Some-clause-image
returns-in_ok-word-in-Some-clause-image c =
    let e = load_node c.node_of-node.result c.in-Some.memory c.in-Some.address (sym c.in-Some.is ∙ c.load_parts.ensures) in
    let t = c.node_of-node.ensures.tree ∙ ap (tree_of_node c.args.old.now) e in
    subst (IsImage c.args.old.now.names c.args.list.now c.put_word.new.terms c.in_ok-word-in-Some.word.0) (sym t) c.in_ok-word-in-Some.ensures.image

pub returns-in_ok-value-in-None-clause-grows : goal.returns-in_ok-value-in-None-clause-grows
returns-in_ok-value-in-None-clause-grows c =
    one_more c.args.terms.now c.put.new.terms (tree_of_node c.args.terms.now c.renamed.result) c.in_ok-value-in-None.ensures.names c.in_ok-value-in-None.ensures.trees

pub returns-in_ok-value-in-None-clause-image : goal.returns-in_ok-value-in-None-clause-image
returns-in_ok-value-in-None-clause-image c =
    let g = c.args.old.now in
    let h = c.args.terms.now in
    let n = c.node_of-node.result in
    let o = c.requires.images n c.node_of-node.ensures.put in
    let trees = subst (λ (m : Node). trees_of c.put.new.terms ≡ trees_of h ++ tree_of_node h m ∷ []) c.renamed.ensures c.in_ok-value-in-None.ensures.trees in
    value_image g h c.put.new.terms c.args.list.now (get nat_eq c.args.images.now) n c.args.id.0 c.in_ok-value-in-None.value.0 c.requires.firsts.same c.node_of-node.ensures.tree c.node_of-node.ensures.over.names o
    c.node_of-node.ensures.sorted c.requires.sort (sym c.load_parts.ensures ∙ c.in-None.is) c.in_ok-value-in-None.ensures.names c.in_ok-value-in-None.ensures.id trees

pub returns-in_ok-word-in-Some-clause-count : goal.returns-in_ok-word-in-Some-clause-count
returns-in_ok-word-in-Some-clause-count c =
    let e = load_node c.node_of-node.result c.in-Some.memory c.in-Some.address (sym c.in-Some.is ∙ c.load_parts.ensures) in
    word_count c.args.old.now c.args.id.0 c.node_of-node.result c.in-Some.memory c.in-Some.address (length c.args.terms.now.nodes) (length c.put_word.new.terms.nodes) c.node_of-node.ensures.put e c.in_ok-word-in-Some.ensures.count

pub returns-in_ok-value-in-None-clause-count : goal.returns-in_ok-value-in-None-clause-count
returns-in_ok-value-in-None-clause-count c =
    let g = c.args.old.now in
    let h = c.args.terms.now in
    value_count g c.args.id.0 c.node_of-node.result (length h.nodes) (length c.put.new.terms.nodes) c.node_of-node.ensures.put c.node_of-node.ensures.tree (sym c.load_parts.ensures ∙ c.in-None.is)
    c.node_of-node.ensures.sorted c.requires.sort (one_counted h c.put.new.terms (tree_of_node h c.renamed.result) c.in_ok-value-in-None.ensures.trees)
