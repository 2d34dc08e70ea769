use Rattle.wb_values.specs.Value.{word, memory}
use Rattle.v_operators.proofs.Growing.{Grows-refl, Grows-trans, IsOfSort-kept}
use Rattle.v_operators.proofs.Forms.{some, formed}
use Rattle.v_elab.proofs.Cutting.{whole_cut, store_sort_of, word_put}
use Rattle.v_elab.proofs.memory.word_cut.Goals as goal

pub returns-then-kept-all-clause-grows : goal.returns-then-kept-all-clause-grows
returns-then-kept-all-clause-grows c = Grows-refl c.args.terms.now

pub returns-then-kept-all-clause-cut : goal.returns-then-kept-all-clause-cut
returns-then-kept-all-clause-cut c =
    whole_cut c.args.terms.now c.args.whole.0 c.args.held.0 c.args.address_width c.args.width c.args.address c.args.bits c.mask-all.result c.mask-all.ensures
    c.requires.held c.if-kept-all.true

pub word_part-requires-clause-whole : goal.word_part-requires-clause-whole
word_part-requires-clause-whole c =
    IsOfSort-kept c.args.whole.0 (memory c.args.address_width c.args.width) c.constant.ensures.grows c.requires.whole

pub put-requires-clause-sorted : goal.put-requires-clause-sorted
put-requires-clause-sorted c =
    some _ _
    (store_sort_of c.word_part.new.terms c.args.held.0 c.in_ok-place.place.0 c.in_ok-cut.cut.0 c.args.address_width c.args.width
    (IsOfSort-kept c.args.held.0 (memory c.args.address_width c.args.width) (Grows-trans c.constant.ensures.grows c.word_part.ensures.grows) c.requires.held)
    (IsOfSort-kept c.in_ok-place.place.0 (word c.args.address_width) c.word_part.ensures.grows c.in_ok-place.ensures.of_sort) c.in_ok-cut.ensures.part.of_sort)

pub returns-in_err-id-clause-grows : goal.returns-in_err-id-clause-grows
returns-in_err-id-clause-grows c = Grows-trans c.constant.ensures.grows (Grows-trans c.word_part.ensures.grows c.put.ensures.grows)

pub returns-clause-grows : goal.returns-clause-grows
returns-clause-grows c = Grows-trans c.constant.ensures.grows (Grows-trans c.word_part.ensures.grows c.put.ensures.grows)

pub returns-clause-cut : goal.returns-clause-cut
returns-clause-cut c =
    let stored = store_sort_of c.word_part.new.terms c.args.held.0 c.in_ok-place.place.0 c.in_ok-cut.cut.0 c.args.address_width c.args.width
    (IsOfSort-kept c.args.held.0 (memory c.args.address_width c.args.width) (Grows-trans c.constant.ensures.grows c.word_part.ensures.grows) c.requires.held)
    (IsOfSort-kept c.in_ok-place.place.0 (word c.args.address_width) c.word_part.ensures.grows c.in_ok-place.ensures.of_sort) c.in_ok-cut.ensures.part.of_sort in
    word_put c.args.terms.now c.constant.new.terms c.word_part.new.terms c.put.new.terms c.args.whole.0 c.args.held.0
    c.args.address_width c.args.width c.args.address c.args.bits c.mask-all.result c.in_ok-place.place.0 c.in_ok-cut.cut.0 c.in_ok-id.id.0
    c.mask-all.ensures c.requires.within c.requires.whole c.requires.held c.constant.ensures.grows c.word_part.ensures.grows
    c.in_ok-place.ensures.value c.in_ok-place.ensures.of_sort.below c.in_ok-cut.ensures.part c.in_ok-id.ensures.tree
    (formed c.put.new.terms c.in_ok-id.id.0 _ (memory c.args.address_width c.args.width) c.in_ok-id.ensures.below c.in_ok-id.ensures.tree stored)
