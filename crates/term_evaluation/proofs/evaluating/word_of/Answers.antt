use Rattle.std.proofs.Common.{IsSome}
use Rattle.model_meaning.specs.Term.{sort_of}
use Rattle.wb_terms.specs.Graph.{tree, tree_of_node}
use Rattle.term_evaluation.specs.Links.{value_at}
use Rattle.term_evaluation.specs.Slots.{values_in}
use Rattle.wb_terms.proofs.HeldLemmas.{held_store}
use Rattle.term_evaluation.proofs.LinkLemmas.{name_below, leaf_of, word_read, link_read, memory_loaded, loaded_held}
use Rattle.term_evaluation.proofs.evaluating.word_of.Goals as goal

pub slot_of_name-slot-requires : goal.slot_of_name-slot-requires
slot_of_name-slot-requires c =
    name_below c.args.terms.now c.args.pool.now c.args.names.now c.in-Name.name.0 c.requires.fits (rw c.in-Name.is at c.requires.over.names).0

pub word_of_slot-requires-clause-sort : goal.word_of_slot-requires-clause-sort
word_of_slot-requires-clause-sort c =
    let declared = rw c.in-Name.is at c.requires.over.names in
    (leaf_of c.args.terms.now c.args.pool.now c.args.names.now c.args.id.0 _ c.in-Name.name c.slot_of_name-slot.result c.name_sort.result c.requires.tree c.in-Name.is c.name_sort.ensures.distinct c.requires.fits declared.0
    c.slot_of_name-slot.ensures c.name_sort.ensures.sort c.name_sort.ensures.in_range).sorted

pub returns-in-Name : goal.returns-in-Name
returns-in-Name c =
    let declared = rw c.in-Name.is at c.requires.over.names in
    let l = leaf_of c.args.terms.now c.args.pool.now c.args.names.now c.args.id.0 _ c.in-Name.name c.slot_of_name-slot.result c.name_sort.result c.requires.tree c.in-Name.is c.name_sort.ensures.distinct c.requires.fits declared.0
    c.slot_of_name-slot.ensures c.name_sort.ensures.sort c.name_sort.ensures.in_range in
    rw (l.sort, l.value) c.word_of_slot.ensures

pub loaded-requires : goal.loaded-requires
loaded-requires c =
    let g = c.args.terms.now in
    let p = c.args.pool.now in
    let xs = values_in p c.args.names.now in
    let arm = c.in-Load in
    let held = rw arm.is at c.requires.words in
    let links = rw arm.is at c.requires.memories in
    let s : IsSome (sort_of (tree_of_node g c.args.node)) = rw c.requires.tree at c.requires.sorted in
    let l = rw arm.is at s in
    let link = link_read g xs p c.args.links.now arm.memory.0 c.kept_link-link.result links.0 c.kept_link-link.ensures in
    record {
      memory = (memory_loaded p (sort_of (tree g arm.memory.0)) (sort_of (tree g arm.address.0)) (value_at g xs arm.memory.0) c.kept_link-link.result c.sort.result l c.sort.ensures.sort c.sort.ensures.in_range
          link _ _ (held.0 c.kept_word-place.result)).0;
    }

pub returns-in-Load : goal.returns-in-Load
returns-in-Load c =
    let g = c.args.terms.now in
    let p = c.args.pool.now in
    let xs = values_in p c.args.names.now in
    let arm = c.in-Load in
    let held = rw arm.is at c.requires.words in
    let links = rw arm.is at c.requires.memories in
    let s : IsSome (sort_of (tree_of_node g c.args.node)) = rw c.requires.tree at c.requires.sorted in
    let l = rw arm.is at s in
    let link = link_read g xs p c.args.links.now arm.memory.0 c.kept_link-link.result links.0 c.kept_link-link.ensures in
    let place = word_read g xs c.args.words.now arm.address.0 c.kept_word-place.result held.1.0 c.kept_word-place.ensures in
    let h = loaded_held p (sort_of (tree g arm.memory.0)) (sort_of (tree g arm.address.0)) (value_at g xs arm.memory.0) (value_at g xs arm.address.0) _ _ c.kept_word-place.result.width c.kept_word-place.result.value
    c.loaded.result.width c.loaded.result.value c.kept_link-link.result c.sort.result l c.sort.ensures.sort (held.0 c.kept_word-place.result) place link c.loaded.ensures.width c.loaded.ensures.value in
    rw (c.requires.tree, arm.is) h

pub returns-in-Store : goal.returns-in-Store
returns-in-Store c =
    let g = c.args.terms.now in
    let xs = values_in c.args.pool.now c.args.names.now in
    let arm = c.in-Store in
    let word = c.truth_word-in-Store in
    let held = rw arm.is at c.requires.words in
    let s : IsSome (sort_of (tree_of_node g c.args.node)) = rw c.requires.tree at c.requires.sorted in
    let l = rw arm.is at s in
    let m = held.0 word.result in
    let x = held.1.1.0 word.result in
    let h = held_store (sort_of (tree g arm.field-0.0)) (sort_of (tree g arm.field-1.0)) (sort_of (tree g arm.field-2.0)) (value_at g xs arm.field-0.0) (value_at g xs arm.field-1.0) (value_at g xs arm.field-2.0) _ _ _ _ _ _ l m x word.ensures.width word.ensures.value in
    rw (c.requires.tree, arm.is) h
