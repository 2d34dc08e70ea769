use Rattle.std.proofs.Common.{◌≤◌, subst, arith}
use Rattle.wb_values.specs.Value.{truth, word, memory}
use Rattle.v_operators.specs.Meaning.{HasNumber}
use Rattle.v_operators.proofs.Growing.{Grows-trans, IsOfSort-kept, below_kept}
use Rattle.v_operators.proofs.Forms.{some, formed}
use Rattle.v_lower.proofs.Loading.{some_address, few_addresses, some_bits, at_most_128, load_sort_of, load_made}
use Rattle.v_lower.proofs.names.loaded.Goals as goal

pub returns-clause-made : goal.returns-clause-made
returns-clause-made c =
    load_made c.args.terms.now c.constant.new.terms c.is_below.new.terms c.part.new.terms c.put.new.terms c.constant-2.new.terms c.choice.new.terms c.args.id.0 c.args.place.0
    c.in_ok-limit.limit.0 c.in_ok-within.within.0 c.in_ok-address.address.0 c.in_ok-read.read.0 c.in_ok-zero.zero.0 c.in_ok-word.word.0 c.args.shape.address_width c.args.shape.width c.requires.memory c.requires.place
    c.in_ok-limit.ensures.grows (λ p. subst (λ k. HasNumber c.constant.new.terms c.in_ok-limit.limit.0 64 p k) c.room.ensures.same (c.in_ok-limit.ensures.value p))
    c.in_ok-within.ensures.grows c.in_ok-within.ensures.made c.in_ok-address.ensures.grows c.in_ok-address.ensures.made
    c.in_ok-read.ensures.grows c.in_ok-read.ensures.below c.in_ok-read.ensures.tree c.in_ok-zero.ensures.grows c.in_ok-zero.ensures.value c.in_ok-word.ensures.made

pub room-requires : goal.room-requires
room-requires c = few_addresses c.args.terms.now c.args.id.0 c.args.shape.address_width c.args.shape.width c.requires.memory

pub overflow_sub-shape : goal.overflow_sub-shape
overflow_sub-shape c = some_address c.args.terms.now c.args.id.0 c.args.shape.address_width c.args.shape.width c.requires.memory

pub part-requires-clause-operand : goal.part-requires-clause-operand
part-requires-clause-operand c = IsOfSort-kept c.args.place.0 (word 64) (Grows-trans c.in_ok-limit.ensures.grows c.in_ok-within.ensures.grows) c.requires.place

pub part-requires-clause-within : goal.part-requires-clause-within
part-requires-clause-within c =
    let l : c.args.shape.address_width ≤ 16 = few_addresses c.args.terms.now c.args.id.0 c.args.shape.address_width c.args.shape.width c.requires.memory in
    omega (arith, l)

pub put-requires-clause-over : goal.put-requires-clause-over
put-requires-clause-over c =
    record {
      operands = (below_kept c.args.id.0 (Grows-trans c.in_ok-limit.ensures.grows (Grows-trans c.in_ok-within.ensures.grows c.in_ok-address.ensures.grows)) c.requires.memory.below, (c.in_ok-address.ensures.made.of_sort.below, tt));
      names = tt;
    }

pub put-requires-clause-sorted : goal.put-requires-clause-sorted
put-requires-clause-sorted c =
    some _ _
    (load_sort_of c.part.new.terms c.args.id.0 c.in_ok-address.address.0 c.args.shape.address_width c.args.shape.width (some_address c.args.terms.now c.args.id.0 c.args.shape.address_width c.args.shape.width c.requires.memory)
    (IsOfSort-kept c.args.id.0 (memory c.args.shape.address_width c.args.shape.width) (Grows-trans c.in_ok-limit.ensures.grows (Grows-trans c.in_ok-within.ensures.grows c.in_ok-address.ensures.grows)) c.requires.memory)
    c.in_ok-address.ensures.made.of_sort)

pub constant-requires-2-clause-some_bits : goal.constant-requires-2-clause-some_bits
constant-requires-2-clause-some_bits c = some_bits c.args.terms.now c.args.id.0 c.args.shape.address_width c.args.shape.width c.requires.memory

pub constant-requires-2-clause-at_most_128 : goal.constant-requires-2-clause-at_most_128
constant-requires-2-clause-at_most_128 c = at_most_128 c.args.terms.now c.args.id.0 c.args.shape.address_width c.args.shape.width c.requires.memory

pub choice-requires-clause-condition : goal.choice-requires-clause-condition
choice-requires-clause-condition c = IsOfSort-kept c.in_ok-within.within.0 truth (Grows-trans c.in_ok-address.ensures.grows (Grows-trans c.in_ok-read.ensures.grows c.in_ok-zero.ensures.grows)) c.in_ok-within.ensures.made.of_sort

pub choice-requires-clause-chosen : goal.choice-requires-clause-chosen
choice-requires-clause-chosen c =
    IsOfSort-kept c.in_ok-read.read.0 (word c.args.shape.width) c.in_ok-zero.ensures.grows
    (formed c.put.new.terms c.in_ok-read.read.0 _ (word c.args.shape.width) c.in_ok-read.ensures.below c.in_ok-read.ensures.tree
    (load_sort_of c.part.new.terms c.args.id.0 c.in_ok-address.address.0 c.args.shape.address_width c.args.shape.width (some_address c.args.terms.now c.args.id.0 c.args.shape.address_width c.args.shape.width c.requires.memory)
    (IsOfSort-kept c.args.id.0 (memory c.args.shape.address_width c.args.shape.width) (Grows-trans c.in_ok-limit.ensures.grows (Grows-trans c.in_ok-within.ensures.grows c.in_ok-address.ensures.grows)) c.requires.memory)
    c.in_ok-address.ensures.made.of_sort))

pub returns-in_err-zero-clause-grows : goal.returns-in_err-zero-clause-grows
returns-in_err-zero-clause-grows c = Grows-trans c.in_ok-limit.ensures.grows (Grows-trans c.in_ok-within.ensures.grows (Grows-trans c.in_ok-address.ensures.grows (Grows-trans c.in_ok-read.ensures.grows c.constant-2.ensures.grows)))

pub returns-in_err-word-clause-grows : goal.returns-in_err-word-clause-grows
returns-in_err-word-clause-grows c = Grows-trans c.in_ok-limit.ensures.grows (Grows-trans c.in_ok-within.ensures.grows (Grows-trans c.in_ok-address.ensures.grows (Grows-trans c.in_ok-read.ensures.grows (Grows-trans c.in_ok-zero.ensures.grows c.choice.ensures.grows))))

pub returns-clause-grows : goal.returns-clause-grows
returns-clause-grows c = Grows-trans c.in_ok-limit.ensures.grows (Grows-trans c.in_ok-within.ensures.grows (Grows-trans c.in_ok-address.ensures.grows (Grows-trans c.in_ok-read.ensures.grows (Grows-trans c.in_ok-zero.ensures.grows c.in_ok-word.ensures.grows))))
