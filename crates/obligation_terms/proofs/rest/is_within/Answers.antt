use Rattle.std.proofs.Common.{sym, subst, refl}
use Rattle.std.specs.Prelude.{IsSome}
use Rattle.wb_values.specs.Value.{word}
use Rattle.term_copies.proofs.Extending.{extended_trans}
use Rattle.condition_terms.proofs.Forming.{IsTermOf-kept}
use Rattle.obligation_terms.proofs.Resting.{counted_is, kept_sort, kept_is, within_told}
use Rattle.obligation_terms.proofs.rest.is_within.Goals as goal

pub put-requires-2-clause-sorted : goal.put-requires-2-clause-sorted
put-requires-2-clause-sorted c =
    let g = c.args.terms.now in
    let k = c.put.new.terms in
    let w = c.args.width in
    let id = c.args.id.0 in
    let counted = c.in_ok-counted.counted.0 in
    subst (λ o. IsSome o) (sym (kept_sort k id counted w (IsTermOf-kept id (word w) c.in_ok-counted.ensures.extended c.requires.sort)
    (counted_is g k id counted w c.args.bits c.requires.sort c.requires.bits c.in_ok-counted.ensures.below c.in_ok-counted.ensures.tree))) refl

pub equal-requires : goal.equal-requires
equal-requires c =
    let g = c.args.terms.now in
    let k = c.put.new.terms in
    let l = c.put-2.new.terms in
    let w = c.args.width in
    let id = c.args.id.0 in
    let counted = c.in_ok-counted.counted.0 in
    let kept = c.in_ok-kept.kept.0 in (
      word w,
      kept_is g k l id counted kept w c.args.bits c.in_ok-counted.ensures.extended c.in_ok-kept.ensures.extended c.requires.sort
          (counted_is g k id counted w c.args.bits c.requires.sort c.requires.bits c.in_ok-counted.ensures.below c.in_ok-counted.ensures.tree) c.in_ok-counted.ensures.tree
          c.in_ok-kept.ensures.below c.in_ok-kept.ensures.tree,
      IsTermOf-kept id (word w) (extended_trans c.in_ok-counted.ensures.extended c.in_ok-kept.ensures.extended) c.requires.sort,
    )

pub returns-clause-told : goal.returns-clause-told
returns-clause-told c =
    within_told c.args.terms.now c.put.new.terms c.put-2.new.terms c.equal.new.terms c.args.id.0 c.in_ok-counted.counted.0 c.in_ok-kept.kept.0 c.in_ok-same.same.0 c.args.width c.args.bits
    c.in_ok-counted.ensures.extended c.in_ok-kept.ensures.extended c.in_ok-same.ensures.extended c.requires.sort c.in_ok-counted.ensures.tree c.in_ok-kept.ensures.tree c.in_ok-same.ensures.told
