use Rattle.std.proofs.Common.{◌≡◌, ◌∙◌, Some, sym, ap}
use Rattle.model_meaning.specs.Term.{sort_of}
use Rattle.wb_terms.specs.Graph.{tree, tree_of_node}
use Rattle.wb_terms.specs.Sort.{as_sort}
use Rattle.term_evaluation.specs.Links.{value_at}
use Rattle.term_evaluation.specs.Slots.{value_in, values_in}
use Rattle.term_evaluation.proofs.SlotLemmas.{keeps_self, slots-read}
use Rattle.term_evaluation.proofs.LinkLemmas.{name_below, leaf_of, link_from, link_chosen, link_stored, stored_tree, other_link, word_read, link_read}
use Rattle.term_evaluation.proofs.evaluating.link_of.Goals as goal

pub slot_of_name-slot-requires : goal.slot_of_name-slot-requires
slot_of_name-slot-requires c =
    name_below c.args.terms.now c.args.pool.now c.args.names.now c.in-Name.name.0 c.requires.fits (rw c.in-Name.is at c.requires.over.names).0

pub link_of_slot-requires : goal.link_of_slot-requires
link_of_slot-requires c =
    let declared = rw c.in-Name.is at c.requires.over.names in
    slots-read c.args.pool.now c.args.names.now c.in-Name.name.0 c.slot_of_name-slot.result c.requires.slots (name_below c.args.terms.now c.args.pool.now c.args.names.now c.in-Name.name.0 c.requires.fits declared.0) c.slot_of_name-slot.ensures

pub returns-in-Name-clause-link : goal.returns-in-Name-clause-link
returns-in-Name-clause-link c =
    let p = c.args.pool.now in
    let declared = rw c.in-Name.is at c.requires.over.names in
    let l = leaf_of c.args.terms.now p c.args.names.now c.args.id.0 _ c.in-Name.name c.slot_of_name-slot.result c.name_sort-sort.result c.requires.tree c.in-Name.is c.name_sort-sort.ensures.distinct c.requires.fits declared.0
    c.slot_of_name-slot.ensures c.name_sort-sort.ensures.sort c.name_sort-sort.ensures.in_range in
    rw (l.sort, l.value) (link_from p (as_sort c.name_sort-sort.result) (value_in p c.slot_of_name-slot.result) c.link_of_slot.result c.link_of_slot.ensures l.sorted)

pub returns-in-Name-clause-keeps : goal.returns-in-Name-clause-keeps
returns-in-Name-clause-keeps c = keeps_self c.args.pool.now

pub returns-in-Ite-clause-link : goal.returns-in-Ite-clause-link
returns-in-Ite-clause-link c =
    let g = c.args.terms.now in
    let p = c.args.pool.now in
    let xs = values_in p c.args.names.now in
    let arm = c.in-Ite in
    let held = rw arm.is at c.requires.words in
    let links = rw arm.is at c.requires.memories in
    let truth = word_read g xs c.args.words.now arm.condition.0 c.kept_word-truth.result held.0 c.kept_word-truth.ensures in
    let first = link_read g xs p c.args.links.now arm.x.0 c.kept_link-first.result links.1.0 c.kept_link-first.ensures in
    let second = link_read g xs p c.args.links.now arm.y.0 c.kept_link-second.result links.1.1.0 c.kept_link-second.ensures in
    rw (c.requires.tree, arm.is)
    (link_chosen p (sort_of (tree g arm.condition.0)) (sort_of (tree g arm.x.0)) (sort_of (tree g arm.y.0)) (value_at g xs arm.condition.0) (value_at g xs arm.x.0) (value_at g xs arm.y.0)
    c.kept_word-truth.result.width c.kept_word-truth.result.value c.kept_link-first.result c.kept_link-second.result c.chosen.result truth first second c.chosen.ensures)

pub returns-in-Ite-clause-keeps : goal.returns-in-Ite-clause-keeps
returns-in-Ite-clause-keeps c = keeps_self c.args.pool.now

pub store_to-requires : goal.store_to-requires
store_to-requires c =
    let g = c.args.terms.now in
    let p = c.args.pool.now in
    let xs = values_in p c.args.names.now in
    let arm = c.in-Store in
    let held = rw arm.is at c.requires.words in
    let links = rw arm.is at c.requires.memories in
    let old = link_read g xs p c.args.links.now arm.memory.0 c.kept_link-old.result links.0 c.kept_link-old.ensures in
    let sort : sort_of (tree_of_node g c.args.node) ≡ Some (as_sort c.sort.result) = sym (ap sort_of c.requires.tree) ∙ c.sort.ensures.sort in
    record {
      memory = stored_tree p (sort_of (tree g arm.memory.0)) (sort_of (tree g arm.address.0)) (sort_of (tree g arm.x.0)) c.sort.result (value_at g xs arm.memory.0) c.kept_link-old.result (rw arm.is at sort) old;
    }

pub returns-in_ok-stored-in-Store-clause-link : goal.returns-in_ok-stored-in-Store-clause-link
returns-in_ok-stored-in-Store-clause-link c =
    let g = c.args.terms.now in
    let p = c.args.pool.now in
    let xs = values_in p c.args.names.now in
    let arm = c.in-Store in
    let held = rw arm.is at c.requires.words in
    let links = rw arm.is at c.requires.memories in
    let old = link_read g xs p c.args.links.now arm.memory.0 c.kept_link-old.result links.0 c.kept_link-old.ensures in
    let place = word_read g xs c.args.words.now arm.address.0 c.kept_word-place.result held.1.0 c.kept_word-place.ensures in
    let word = word_read g xs c.args.words.now arm.x.0 c.kept_word-word.result held.1.1.0 c.kept_word-word.ensures in
    let sort : sort_of (tree_of_node g c.args.node) ≡ Some (as_sort c.sort.result) = sym (ap sort_of c.requires.tree) ∙ c.sort.ensures.sort in
    rw (c.requires.tree, arm.is)
    (link_stored p c.store_to.new.pool (sort_of (tree g arm.memory.0)) (sort_of (tree g arm.address.0)) (sort_of (tree g arm.x.0)) (value_at g xs arm.memory.0) (value_at g xs arm.address.0) (value_at g xs arm.x.0)
    c.kept_word-place.result.width c.kept_word-place.result.value c.kept_word-word.result.width c.kept_word-word.result.value c.sort.result c.kept_link-old.result c.in_ok-stored-in-Store.stored (rw arm.is at sort) old place word
    c.in_ok-stored-in-Store.ensures.memory c.in_ok-stored-in-Store.ensures.words)

pub returns-in_default-clause-link : goal.returns-in_default-clause-link
returns-in_default-clause-link c =
    let g = c.args.terms.now in
    other_link g c.args.pool.now c.args.id.0 c.args.node (value_at g (values_in c.args.pool.now c.args.names.now) c.args.id.0) c.zeros.result c.requires.tree c.in_default.not-Name c.in_default.not-Ite c.in_default.not-Store

pub returns-in_default-clause-keeps : goal.returns-in_default-clause-keeps
returns-in_default-clause-keeps c = keeps_self c.args.pool.now
