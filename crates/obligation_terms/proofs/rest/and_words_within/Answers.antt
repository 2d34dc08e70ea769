use Rattle.std.proofs.Common.{◌<◌, ◌^◌, ℕ, sym, subst}
use Rattle.std.specs.Prelude.{IsTrue, slice_index}
use Rattle.wb_values.specs.Value.{memory}
use Rattle.wb_terms.specs.Graph.{tree}
use Rattle.term_copies.proofs.Extending.{extended_refl, extended_trans}
use Rattle.condition_terms.specs.Told.{Tells, is_true}
use Rattle.condition_terms.proofs.Forming.{IsTermOf-kept}
use Rattle.condition_terms.proofs.Comparing.{word_of, shifted}
use Rattle.obligation_terms.specs.Rest.{IsWithin}
use Rattle.obligation_terms.proofs.Resting.{none_yet, one_more, mask_below, word_here}
use Rattle.obligation_terms.proofs.rest.and_words_within.Goals as goal

pub loop-address-init : goal.loop-address-init
loop-address-init c =
    let g = c.args.terms.now in
    (extended_refl g, none_yet c.args.all.0 (λ k v. IsWithin (slice_index c.args.masks.now k) (word_of g c.args.id.0 k v)) c.requires.all)

pub and_word_within-requires-clause-all : goal.and_word_within-requires-clause-all
and_word_within-requires-clause-all c = c.loop-address.invariant.1.condition

pub and_word_within-requires-clause-sort : goal.and_word_within-requires-clause-sort
and_word_within-requires-clause-sort c = IsTermOf-kept c.args.id.0 (memory c.args.address_width c.args.width) c.loop-address.invariant.0 c.requires.sort

pub and_word_within-requires-clause-bits : goal.and_word_within-requires-clause-bits
and_word_within-requires-clause-bits c =
    subst (λ n. n < 2 ^ c.args.width) (sym c.bits_of_word-bits.ensures) (mask_below c.args.width c.args.masks.now c.loop-address.address c.requires.masks)

pub loop-address-preserved : goal.loop-address-preserved
loop-address-preserved c =
    let g = c.args.terms.now in
    let k = c.loop-address.terms in
    let h = c.and_word_within.new.terms in
    let id = c.args.id.0 in
    let n = c.loop-address.address in
    let together = c.in_ok-together.together.0 in (
      extended_trans c.loop-address.invariant.0 c.in_ok-together.ensures.extended,
      one_more c.loop-address.together.0 together n (λ v. IsTrue (is_true g c.args.all.0 v)) (λ i v. IsWithin (slice_index c.args.masks.now i) (word_of g id i v)) c.in_ok-together.ensures.extended
          c.loop-address.invariant.1
          (word_here g k h c.loop-address.together.0 together id c.args.address_width c.args.width n c.bits_of_word-bits.result (slice_index c.args.masks.now n) c.loop-address.invariant.0 c.requires.sort
          c.bits_of_word-bits.ensures c.in_ok-together.ensures.told),
    )

pub returns-clause-told : goal.returns-clause-told
returns-clause-told c =
    let g = c.args.terms.now in
    let id = c.args.id.0 in
    let end = shifted (tree g id) c.args.address_width c.args.width c.loop-address.address c.requires.sort.sort c.loop-address-test.false c.loop-address.auto.address-end in
    subst (λ n. Tells c.loop-address.terms c.loop-address.together.0 (λ v. IsTrue (is_true g c.args.all.0 v) × ((k : ℕ) → k < n → IsWithin (slice_index c.args.masks.now k) (word_of g id k v)))) end
    c.loop-address.invariant.1
