use Rattle.std.proofs.Common.{◌≡◌, ◌∙◌, ◌+◌, ◌<◌, ◌≤◌, ◌^◌, Option, Some, length, ap, sym, subst, arith}
use Rattle.wb_values.specs.Value.{word, memory}
use Rattle.model_meaning.specs.Term.{Term, const, load, sort_of}
use Rattle.wb_terms.specs.Graph.{tree, tree_of_node}
use Rattle.wb_terms.specs.declared.nodes.TermId.{TermId}
use Rattle.wb_terms.proofs.HeldLemmas.{load_sorts}
use Rattle.ob_mem.specs.Images.{IsImage}
use Rattle.ob_mem.proofs.Imaging.{const_small, const_from_part, picked_image, picked_below, address_narrow, load_parts_sorts, word_image, memory_words, load_image}
use Rattle.ob_mem.proofs.Counting.{load_counted}
use Rattle.ob_mem.proofs.images.put_word.Goals as goal

pub later-requires : goal.later-requires
later-requires c =
    let g = c.args.old.now in
    let h = c.args.terms.now in
    let rs = c.args.list.now in
    let m = tree g c.args.memory.0 in
    let i = tree g c.args.address.0 in
    let s = load_sorts (sort_of m) (sort_of i) c.requires.sorted in
    let k = const_from_part g c.node.result.now c.in-Some.place i c.node.ensures.tree (sym c.in-Some.is ∙ c.const_part.ensures) in
    picked_below g h rs m i c.image-row.result.0 k.0 c.in-Some.place s.0 s.1 k.1 s.2 s.3 (subst (λ (x : TermId). IsImage g.names rs h x.0 m) (sym c.image-row.ensures) c.requires.image)

pub word_width-width-requires-clause-is_word : goal.word_width-width-requires-clause-is_word
word_width-width-requires-clause-is_word c =
    let s = load_sorts (sort_of (tree c.args.old.now c.args.memory.0)) (sort_of (tree c.args.old.now c.args.address.0)) c.requires.sorted in
    (s.0, s.3)

pub overflow_cast-place : goal.overflow_cast-place
overflow_cast-place c =
    let m = tree c.args.old.now c.args.memory.0 in
    let i = tree c.args.old.now c.args.address.0 in
    let s = load_sorts (sort_of m) (sort_of i) c.requires.sorted in
    let k = const_from_part c.args.old.now c.node.result.now c.in-Some.place i c.node.ensures.tree (sym c.in-Some.is ∙ c.const_part.ensures) in
    let b = const_small m i k.0 c.in-Some.place s.0 s.1 k.1 s.2 s.3 in
    omega (arith, b)

pub put_load-requires-clause-words : goal.put_load-requires-clause-words
put_load-requires-clause-words c =
    let g = c.args.old.now in
    let h = c.args.terms.now in
    let rs = c.args.list.now in
    let m = tree g c.args.memory.0 in
    let s = load_parts_sorts (sort_of m) (sort_of (tree g c.args.address.0)) c.word_width-width.result c.requires.sorted c.word_width-width.ensures in
    (s.0, memory_words g.names rs h c.image-row.result.0 m c.word_width-width.result s.0 s.1 (subst (λ (x : TermId). IsImage g.names rs h x.0 m) (sym c.image-row.ensures) c.requires.image))

pub put_load-requires-clause-address : goal.put_load-requires-clause-address
put_load-requires-clause-address c =
    let g = c.args.old.now in
    let h = c.args.terms.now in
    let rs = c.args.list.now in
    let i = tree g c.args.address.0 in
    (word_image g.names rs h c.image-place.result.0 i c.word_width-width.result c.word_width-width.ensures (subst (λ (x : TermId). IsImage g.names rs h x.0 i) (sym c.image-place.ensures) c.requires.image_of_address)).plain

pub put_load-requires-clause-narrow : goal.put_load-requires-clause-narrow
put_load-requires-clause-narrow c =
    let m = tree c.args.old.now c.args.memory.0 in
    let s = load_parts_sorts (sort_of m) (sort_of (tree c.args.old.now c.args.address.0)) c.word_width-width.result c.requires.sorted c.word_width-width.ensures in
    address_narrow m c.word_width-width.result s.0 s.1

pub returns-in-Some-clause-image : goal.returns-in-Some-clause-image
returns-in-Some-clause-image c =
    let g = c.args.old.now in
    let h = c.args.terms.now in
    let rs = c.args.list.now in
    let m = tree g c.args.memory.0 in
    let i = tree g c.args.address.0 in
    let s = load_sorts (sort_of m) (sort_of i) c.requires.sorted in
    let k = const_from_part g c.node.result.now c.in-Some.place i c.node.ensures.tree (sym c.in-Some.is ∙ c.const_part.ensures) in
    subst (λ n. IsImage g.names rs h n (load m i)) (sym c.later.ensures)
    (picked_image g h rs m i c.image-row.result.0 k.0 c.in-Some.place s.0 s.1 k.1 s.2 s.3 (subst (λ (x : TermId). IsImage g.names rs h x.0 m) (sym c.image-row.ensures) c.requires.image))

pub returns-in_ok-id-in-None-clause-image : goal.returns-in_ok-id-in-None-clause-image
returns-in_ok-id-in-None-clause-image c =
    let g = c.args.old.now in
    let h = c.args.terms.now in
    let rs = c.args.list.now in
    let m = tree g c.args.memory.0 in
    let i = tree g c.args.address.0 in
    let s = load_parts_sorts (sort_of m) (sort_of i) c.word_width-width.result c.requires.sorted c.word_width-width.ensures in
    let im = subst (λ (x : TermId). IsImage g.names rs h x.0 m) (sym c.image-row.ensures) c.requires.image in
    let ii = subst (λ (x : TermId). IsImage g.names rs h x.0 i) (sym c.image-place.ensures) c.requires.image_of_address in
    let r = c.in_ok-id-in-None.ensures in
    load_image g h c.put_load.new.terms rs m i c.image-row.result.0 c.image-place.result.0 c.in_ok-id-in-None.id.0 c.word_width-width.result s.0 s.1 c.word_width-width.ensures im ii r.grows
    (r.plain s.0 (memory_words g.names rs h c.image-row.result.0 m c.word_width-width.result s.0 s.1 im)) r.value

pub returns-in-Some-clause-count : goal.returns-in-Some-clause-count
returns-in-Some-clause-count c = omega arith

pub returns-in_ok-id-in-None-clause-count : goal.returns-in_ok-id-in-None-clause-count
returns-in_ok-id-in-None-clause-count c =
    let g = c.args.old.now in
    load_counted g c.args.address.0 c.node.result.now c.word_width-width.result (length c.args.terms.now.nodes) (length c.put_load.new.terms.nodes) c.node.ensures.put
    (sym c.in-None.is ∙ c.const_part.ensures) c.word_width-width.ensures c.in_ok-id-in-None.ensures.count
