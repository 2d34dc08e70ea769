use Rattle.std.proofs.Common.{◌∙◌, ap, IsSome, arith}
use Rattle.model_meaning.specs.Term.{sort_of}
use Rattle.wb_terms.specs.Graph.{tree, tree_of_node}
use Rattle.wb_terms.specs.Environment.{value_of}
use Rattle.wb_terms.proofs.InRange.{IsInRange-sort_of}
use Rattle.wb_terms.proofs.EnvironmentLemmas.{name_has_value, name_has_sort, leaf}
use Rattle.wb_terms.proofs.HeldLemmas.{address_is_small, held_store}
use Rattle.wb_terms.proofs.evaluation.word_of.Goals as goal

pub index-requires : goal.index-requires
index-requires c = name_has_value c.args.terms.now c.args.env.now c.in-Name.name.0 c.requires.fits (rw c.in-Name.is at c.node.ensures.over.names).0

pub word_of_value-requires-clause-sort : goal.word_of_value-requires-clause-sort
word_of_value-requires-clause-sort c =
    let declared = rw c.in-Name.is at c.node.ensures.over.names in
    name_has_sort c.args.terms.now c.args.env.now c.in-Name.name.0 _ _ c.requires.fits declared.0 c.index.ensures c.name_sort.ensures.sort

pub returns-in-Name : goal.returns-in-Name
returns-in-Name c =
    let declared = rw c.in-Name.is at c.node.ensures.over.names in
    let l = leaf c.args.terms.now c.args.env.now c.args.id.0 _ c.in-Name.name _ _ c.node.ensures.tree c.in-Name.is c.name_sort.ensures.distinct c.requires.fits declared.0 c.index.ensures c.name_sort.ensures.sort c.name_sort.ensures.in_range in
    rw (l.sort, l.value) c.word_of_value.ensures

pub overflow_cast-words : goal.overflow_cast-words
overflow_cast-words c =
    let g = c.args.terms.now in
    let arm = c.in-Load in
    let operands = rw arm.is at c.node.ensures.over.operands in
    let t = c.node.ensures.tree ∙ ap (tree_of_node g) arm.is in
    let s : IsSome (sort_of (tree_of_node g c.node.result.now)) = rw c.node.ensures.tree at c.node.ensures.sorted in
    let l = rw arm.is at s in
    let h = c.requires.earlier arm.address.0 c.index-words-address.result operands.1.0 in
    let n = address_is_small (sort_of (tree g arm.memory.0)) (sort_of (tree g arm.address.0)) (value_of g c.args.env.now arm.address.0) _ _ (IsInRange-sort_of (tree g arm.memory.0)) l h in
    omega (arith, n)

pub returns-in-Store : goal.returns-in-Store
returns-in-Store c =
    let g = c.args.terms.now in
    let e = c.args.env.now in
    let arm = c.in-Store in
    let word = c.truth_word-in-Store in
    let operands = rw arm.is at c.node.ensures.over.operands in
    let s : IsSome (sort_of (tree_of_node g c.node.result.now)) = rw c.node.ensures.tree at c.node.ensures.sorted in
    let l = rw arm.is at s in
    let m = c.requires.earlier arm.field-0.0 word.result operands.0 in
    let x = c.requires.earlier arm.field-2.0 word.result operands.1.1.0 in
    let h = held_store (sort_of (tree g arm.field-0.0)) (sort_of (tree g arm.field-1.0)) (sort_of (tree g arm.field-2.0)) (value_of g e arm.field-0.0) (value_of g e arm.field-1.0) (value_of g e arm.field-2.0) _ _ _ _ _ _ l m x word.ensures.width word.ensures.value in
    rw (c.node.ensures.tree, arm.is) h
