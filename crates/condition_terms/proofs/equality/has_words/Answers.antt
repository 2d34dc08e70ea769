use Rattle.std.proofs.Common.{◌≡◌}
use Rattle.std.specs.Prelude.{slice_index}
use Rattle.wb_values.specs.Value.{truth, memory}
use Rattle.term_copies.proofs.Extending.{extended_trans}
use Rattle.condition_terms.proofs.Forming.{IsTermOf-kept}
use Rattle.condition_terms.proofs.Comparing.{word_of, word_fits, one_more_alike, has_here, none_alike, memory_told}
use Rattle.condition_terms.proofs.equality.has_words.Goals as goal

pub loop-address-init : goal.loop-address-init
loop-address-init c =
    let g = c.args.terms.now in (
      c.in_ok-all.ensures.extended,
      none_alike c.in_ok-all.all.0 (λ k v. word_of g c.args.id.0 k v ≡ slice_index c.args.wanted.now k) c.in_ok-all.ensures.value,
    )

pub has_word-requires-clause-sort : goal.has_word-requires-clause-sort
has_word-requires-clause-sort c = IsTermOf-kept c.args.id.0 (memory c.args.address_width c.args.width) c.loop-address.invariant.0 c.requires.sort

pub has_word-requires-clause-fits : goal.has_word-requires-clause-fits
has_word-requires-clause-fits c = word_fits c.args.wanted.now c.args.address_width c.args.width c.loop-address.address c.requires.fits c.loop-address-test.true

pub both-requires-clause-left : goal.both-requires-clause-left
both-requires-clause-left c = IsTermOf-kept c.loop-address.all.0 truth c.in_ok-here.ensures.extended c.loop-address.invariant.1.condition

pub loop-address-preserved : goal.loop-address-preserved
loop-address-preserved c = (
  extended_trans c.loop-address.invariant.0 (extended_trans c.in_ok-here.ensures.extended c.in_ok-all-2.ensures.extended),
  one_more_alike c.loop-address.terms c.has_word.new.terms c.both.new.terms c.loop-address.all.0 c.in_ok-here.here.0 c.in_ok-all-2.all.0 c.loop-address.address
      (λ k v. word_of c.args.terms.now c.args.id.0 k v ≡ slice_index c.args.wanted.now k) c.in_ok-here.ensures.extended c.in_ok-all-2.ensures.extended
      c.loop-address.invariant.1
      (has_here c.args.terms.now c.loop-address.terms c.has_word.new.terms c.args.id.0 c.in_ok-here.here.0 c.args.address_width c.args.width c.loop-address.address
      (slice_index c.args.wanted.now c.loop-address.address) c.loop-address.invariant.0 c.requires.sort c.in_ok-here.ensures.told)
      c.in_ok-all-2.ensures.value,
)

pub returns-clause-told : goal.returns-clause-told
returns-clause-told c =
    memory_told c.loop-address.all.0 c.args.id.0 c.args.address_width c.args.width c.loop-address.address c.args.wanted.now c.loop-address.invariant.0
    c.loop-address-test.false c.loop-address.auto.address-end c.requires.sort c.requires.fits c.loop-address.invariant.1
