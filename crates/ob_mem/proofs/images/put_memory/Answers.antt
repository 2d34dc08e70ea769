use Rattle.std.proofs.Common.{◌≡◌, ◌∙◌, ◌<◌, [], ◌∷◌, length, Some, refl, ap, sym, subst, arith}
use Rattle.wb_values.specs.Value.{memory}
use Rattle.model_meaning.specs.Term.{Term, sort_of}
use Rattle.wb_terms.specs.declared.nodes.Node.TheVariants.{Name, Ite, Store}
use Rattle.wb_terms.specs.Graph.{tree, tree_of_node}
use Rattle.ob_mem.specs.Words.{entry_at}
use Rattle.ob_mem.specs.Images.{IsImage}
use Rattle.ob_mem.proofs.Imaging.{leaf_parts, update_sorts}
use Rattle.ob_mem.proofs.Counting.{memory_count, store_count}
use Rattle.ob_mem.proofs.images.put_memory.Goals as goal

pub put_leaf-requires-clause-name : goal.put_leaf-requires-clause-name
put_leaf-requires-clause-name c = (rw c.in-Name.is at c.node.ensures.over.names).0

pub put_leaf-requires-clause-sort : goal.put_leaf-requires-clause-sort
put_leaf-requires-clause-sort c =
    let g = c.args.old.now in
    let t = c.node.ensures.tree ∙ ap (tree_of_node g) c.in-Name.is in
    let p = leaf_parts (entry_at g.names c.in-Name.name.0).1 c.args.address_width c.requires.sort.0 (sym (ap sort_of t) ∙ c.requires.sort.1) in
    (c.requires.sort.0, p.0, p.1)

pub put_choice-requires-clause-sort : goal.put_choice-requires-clause-sort
put_choice-requires-clause-sort c =
    let t = c.node.ensures.tree ∙ ap (tree_of_node c.args.old.now) c.in-Ite.is in
    (c.requires.sort.0, sym (ap sort_of t) ∙ c.requires.sort.1)

pub put_choice-requires-clause-images : goal.put_choice-requires-clause-images
put_choice-requires-clause-images c =
    let arm = c.in-Ite in
    rw arm.is at (c.requires.images c.node.result.now c.node.ensures.put)

pub put_update-requires-clause-sort : goal.put_update-requires-clause-sort
put_update-requires-clause-sort c =
    let t = c.node.ensures.tree ∙ ap (tree_of_node c.args.old.now) c.in-Store.is in
    (c.requires.sort.0, sym (ap sort_of t) ∙ c.requires.sort.1)

pub put_update-requires-clause-images : goal.put_update-requires-clause-images
put_update-requires-clause-images c =
    let arm = c.in-Store in
    rw arm.is at (c.requires.images c.node.result.now c.node.ensures.put)

pub returns-in_ok-row-in-Name-clause-image : goal.returns-in_ok-row-in-Name-clause-image
returns-in_ok-row-in-Name-clause-image c =
    let g = c.args.old.now in
    let t = c.node.ensures.tree ∙ ap (tree_of_node g) c.in-Name.is in
    subst (IsImage g.names c.args.list.now c.put_leaf.new.terms c.in_ok-row-in-Name.row.0) (sym t) c.in_ok-row-in-Name.ensures.image

pub returns-in_ok-row-in-Ite-clause-image : goal.returns-in_ok-row-in-Ite-clause-image
returns-in_ok-row-in-Ite-clause-image c =
    let g = c.args.old.now in
    let t = c.node.ensures.tree ∙ ap (tree_of_node g) c.in-Ite.is in
    subst (IsImage g.names c.args.list.now c.put_choice.new.terms c.in_ok-row-in-Ite.row.0) (sym t) c.in_ok-row-in-Ite.ensures.image

pub returns-in_ok-row-in-Store-clause-image : goal.returns-in_ok-row-in-Store-clause-image
returns-in_ok-row-in-Store-clause-image c =
    let g = c.args.old.now in
    let t = c.node.ensures.tree ∙ ap (tree_of_node g) c.in-Store.is in
    subst (IsImage g.names c.args.list.now c.put_update.new.terms c.in_ok-row-in-Store.row.0) (sym t) c.in_ok-row-in-Store.ensures.image

pub returns-in_ok-row-in-Name-clause-count : goal.returns-in_ok-row-in-Name-clause-count
returns-in_ok-row-in-Name-clause-count c =
    memory_count c.args.old.now c.args.id.0 c.node.result.now (Name c.in-Name.name) c.args.address_width c.requires.sort.0 (length c.args.terms.now.nodes) (length c.put_leaf.new.terms.nodes)
    c.node.ensures.put c.in-Name.is c.node.ensures.tree c.requires.sort.1 refl c.in_ok-row-in-Name.ensures.count

pub returns-in_ok-row-in-Ite-clause-count : goal.returns-in_ok-row-in-Ite-clause-count
returns-in_ok-row-in-Ite-clause-count c =
    memory_count c.args.old.now c.args.id.0 c.node.result.now (Ite c.in-Ite.c c.in-Ite.x c.in-Ite.y) c.args.address_width c.requires.sort.0 (length c.args.terms.now.nodes) (length c.put_choice.new.terms.nodes)
    c.node.ensures.put c.in-Ite.is c.node.ensures.tree c.requires.sort.1 refl c.in_ok-row-in-Ite.ensures.count

pub returns-in_ok-row-in-Store-clause-count : goal.returns-in_ok-row-in-Store-clause-count
returns-in_ok-row-in-Store-clause-count c =
    let g = c.args.old.now in
    let arm = c.in-Store in
    let t = c.node.ensures.tree ∙ ap (tree_of_node g) arm.is in
    let s = update_sorts (sort_of (tree g arm.m.0)) (sort_of (tree g arm.i.0)) (sort_of (tree g arm.x.0)) c.args.address_width c.requires.sort.0 (sym (ap sort_of t) ∙ c.requires.sort.1) in
    store_count g c.args.id.0 c.node.result.now arm.m arm.i arm.x c.args.address_width c.requires.sort.0 (length c.args.terms.now.nodes) (length c.put_update.new.terms.nodes)
    c.node.ensures.put arm.is s.0 c.in_ok-row-in-Store.ensures.count
