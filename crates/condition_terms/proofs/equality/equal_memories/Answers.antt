use Rattle.std.proofs.Common.{◌≡◌}
use Rattle.wb_values.specs.Value.{truth, memory}
use Rattle.wb_terms.specs.Graph.{tree}
use Rattle.term_copies.proofs.Extending.{extended_trans}
use Rattle.condition_terms.proofs.Forming.{IsTermOf-kept}
use Rattle.condition_terms.proofs.Comparing.{word_of, one_more_alike, alike_here, none_alike, memories_told, shifted}
use Rattle.condition_terms.proofs.equality.equal_memories.Goals as goal

pub loop-address-init : goal.loop-address-init
loop-address-init c =
    let g = c.args.terms.now in (
      c.in_ok-all.ensures.extended,
      none_alike c.in_ok-all.all.0 (λ k v. word_of g c.args.left.0 k v ≡ word_of g c.args.right.0 k v) c.in_ok-all.ensures.value,
    )

pub equal_words-requires-clause-sorts : goal.equal_words-requires-clause-sorts
equal_words-requires-clause-sorts c =
    let d = c.requires.0 in (
      d,
      IsTermOf-kept c.args.left.0 (memory c.args.address_width d) c.loop-address.invariant.0 c.requires.1,
      IsTermOf-kept c.args.right.0 (memory c.args.address_width d) c.loop-address.invariant.0 c.requires.2,
    )

pub both-requires-clause-left : goal.both-requires-clause-left
both-requires-clause-left c = IsTermOf-kept c.loop-address.all.0 truth c.in_ok-here.ensures.extended c.loop-address.invariant.1.condition

pub loop-address-preserved : goal.loop-address-preserved
loop-address-preserved c = (
  extended_trans c.loop-address.invariant.0 (extended_trans c.in_ok-here.ensures.extended c.in_ok-all-2.ensures.extended),
  one_more_alike c.loop-address.terms c.equal_words.new.terms c.both.new.terms c.loop-address.all.0 c.in_ok-here.here.0 c.in_ok-all-2.all.0 c.loop-address.address
      (λ k v. word_of c.args.terms.now c.args.left.0 k v ≡ word_of c.args.terms.now c.args.right.0 k v) c.in_ok-here.ensures.extended c.in_ok-all-2.ensures.extended
      c.loop-address.invariant.1
      (alike_here c.args.terms.now c.loop-address.terms c.equal_words.new.terms c.args.left.0 c.args.right.0 c.in_ok-here.here.0 c.args.address_width c.requires.0 c.loop-address.address
      c.loop-address.invariant.0 c.requires.1 c.requires.2 c.in_ok-here.ensures.told)
      c.in_ok-all-2.ensures.value,
)

pub returns-clause-told : goal.returns-clause-told
returns-clause-told c =
    memories_told c.loop-address.all.0 c.args.left.0 c.args.right.0 c.args.address_width c.requires.0 c.loop-address.address c.loop-address.invariant.0
    (shifted (tree c.args.terms.now c.args.left.0) c.args.address_width c.requires.0 c.loop-address.address c.requires.1.sort c.loop-address-test.false c.loop-address.auto.address-end) c.requires.1 c.requires.2 c.loop-address.invariant.1
