use Rattle.std.proofs.Common.{◌≤◌, subst, arith}
use Rattle.wb_values.specs.Value.{truth, word, memory}
use Rattle.v_operators.specs.Meaning.{HasNumber}
use Rattle.v_operators.proofs.Growing.{Grows-trans, IsOfSort-kept}
use Rattle.v_operators.proofs.Forms.{some, formed}
use Rattle.v_bits.proofs.Stores.{some_address, few_addresses, store_sort_of, ite_sort_of, store_made}
use Rattle.v_bits.proofs.storing.stored.Goals as goal

pub overflow_sub-address_width : goal.overflow_sub-address_width
overflow_sub-address_width c = some_address c.args.terms.now c.args.operand.0 c.args.address_width c.args.width c.requires.operand

pub part-requires-clause-operand : goal.part-requires-clause-operand
part-requires-clause-operand c = IsOfSort-kept c.args.place.0 (word 64) (Grows-trans c.in_ok-limit.ensures.grows c.in_ok-within.ensures.grows) c.requires.place

pub part-requires-clause-within : goal.part-requires-clause-within
part-requires-clause-within c = let l : c.args.address_width ≤ 16 = few_addresses c.args.terms.now c.args.operand.0 c.args.address_width c.args.width c.requires.operand in omega (arith, l)

pub put-requires-clause-sorted : goal.put-requires-clause-sorted
put-requires-clause-sorted c =
    some _ _
    (store_sort_of c.part.new.terms c.args.operand.0 c.in_ok-address.address.0 c.args.value.0 c.args.address_width c.args.width (some_address c.args.terms.now c.args.operand.0 c.args.address_width c.args.width c.requires.operand)
    (IsOfSort-kept c.args.operand.0 (memory c.args.address_width c.args.width) (Grows-trans c.in_ok-limit.ensures.grows (Grows-trans c.in_ok-within.ensures.grows c.in_ok-address.ensures.grows)) c.requires.operand) c.in_ok-address.ensures.made.of_sort
    (IsOfSort-kept c.args.value.0 (word c.args.width) (Grows-trans c.in_ok-limit.ensures.grows (Grows-trans c.in_ok-within.ensures.grows c.in_ok-address.ensures.grows)) c.requires.value))

pub put-requires-2-clause-sorted : goal.put-requires-2-clause-sorted
put-requires-2-clause-sorted c =
    some _ _
    (ite_sort_of c.put.new.terms c.in_ok-within.within.0 c.in_ok-changed.changed.0 c.args.operand.0 c.args.address_width c.args.width
    (IsOfSort-kept c.in_ok-within.within.0 truth (Grows-trans c.in_ok-address.ensures.grows c.in_ok-changed.ensures.grows) c.in_ok-within.ensures.made.of_sort)
    (formed c.put.new.terms c.in_ok-changed.changed.0 _ (memory c.args.address_width c.args.width) c.in_ok-changed.ensures.below c.in_ok-changed.ensures.tree
    (store_sort_of c.part.new.terms c.args.operand.0 c.in_ok-address.address.0 c.args.value.0 c.args.address_width c.args.width (some_address c.args.terms.now c.args.operand.0 c.args.address_width c.args.width c.requires.operand)
    (IsOfSort-kept c.args.operand.0 (memory c.args.address_width c.args.width) (Grows-trans c.in_ok-limit.ensures.grows (Grows-trans c.in_ok-within.ensures.grows c.in_ok-address.ensures.grows)) c.requires.operand) c.in_ok-address.ensures.made.of_sort
    (IsOfSort-kept c.args.value.0 (word c.args.width) (Grows-trans c.in_ok-limit.ensures.grows (Grows-trans c.in_ok-within.ensures.grows c.in_ok-address.ensures.grows)) c.requires.value)))
    (IsOfSort-kept c.args.operand.0 (memory c.args.address_width c.args.width) (Grows-trans c.in_ok-limit.ensures.grows (Grows-trans c.in_ok-within.ensures.grows (Grows-trans c.in_ok-address.ensures.grows c.in_ok-changed.ensures.grows))) c.requires.operand))

pub returns-in_err-id-clause-grows : goal.returns-in_err-id-clause-grows
returns-in_err-id-clause-grows c = Grows-trans c.in_ok-limit.ensures.grows (Grows-trans c.in_ok-within.ensures.grows (Grows-trans c.in_ok-address.ensures.grows (Grows-trans c.in_ok-changed.ensures.grows c.put-2.ensures.grows)))

pub returns-clause-grows : goal.returns-clause-grows
returns-clause-grows c = Grows-trans c.in_ok-limit.ensures.grows (Grows-trans c.in_ok-within.ensures.grows (Grows-trans c.in_ok-address.ensures.grows (Grows-trans c.in_ok-changed.ensures.grows c.put-2.ensures.grows)))

pub returns-clause-made : goal.returns-clause-made
returns-clause-made c =
    store_made c.args.terms.now c.constant.new.terms c.is_below.new.terms c.part.new.terms c.put.new.terms c.put-2.new.terms c.args.operand.0 c.args.place.0 c.args.value.0
    c.in_ok-limit.limit.0 c.in_ok-within.within.0 c.in_ok-address.address.0 c.in_ok-changed.changed.0 c.in_ok-id.id.0 c.args.address_width c.args.width c.args.count
    c.requires.operand c.requires.place c.requires.value c.requires.room
    c.in_ok-limit.ensures.grows (λ p. subst (λ k. HasNumber c.constant.new.terms c.in_ok-limit.limit.0 64 p k) c.natural.ensures.same (c.in_ok-limit.ensures.value p))
    c.in_ok-within.ensures.grows c.in_ok-within.ensures.made c.in_ok-address.ensures.grows c.in_ok-address.ensures.made
    c.in_ok-changed.ensures.grows c.in_ok-changed.ensures.below c.in_ok-changed.ensures.tree c.in_ok-id.ensures.below c.in_ok-id.ensures.tree
    (ite_sort_of c.put.new.terms c.in_ok-within.within.0 c.in_ok-changed.changed.0 c.args.operand.0 c.args.address_width c.args.width
    (IsOfSort-kept c.in_ok-within.within.0 truth (Grows-trans c.in_ok-address.ensures.grows c.in_ok-changed.ensures.grows) c.in_ok-within.ensures.made.of_sort)
    (formed c.put.new.terms c.in_ok-changed.changed.0 _ (memory c.args.address_width c.args.width) c.in_ok-changed.ensures.below c.in_ok-changed.ensures.tree
    (store_sort_of c.part.new.terms c.args.operand.0 c.in_ok-address.address.0 c.args.value.0 c.args.address_width c.args.width (some_address c.args.terms.now c.args.operand.0 c.args.address_width c.args.width c.requires.operand)
    (IsOfSort-kept c.args.operand.0 (memory c.args.address_width c.args.width) (Grows-trans c.in_ok-limit.ensures.grows (Grows-trans c.in_ok-within.ensures.grows c.in_ok-address.ensures.grows)) c.requires.operand) c.in_ok-address.ensures.made.of_sort
    (IsOfSort-kept c.args.value.0 (word c.args.width) (Grows-trans c.in_ok-limit.ensures.grows (Grows-trans c.in_ok-within.ensures.grows c.in_ok-address.ensures.grows)) c.requires.value)))
    (IsOfSort-kept c.args.operand.0 (memory c.args.address_width c.args.width) (Grows-trans c.in_ok-limit.ensures.grows (Grows-trans c.in_ok-within.ensures.grows (Grows-trans c.in_ok-address.ensures.grows c.in_ok-changed.ensures.grows))) c.requires.operand))
