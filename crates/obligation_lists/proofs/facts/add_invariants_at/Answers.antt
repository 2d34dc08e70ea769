use Rattle.std.proofs.Common.{◌≡◌, ◌+◌, ◌<◌, ◌≤◌, [], ◌∷◌, length, ap, arith}
use Rattle.refinement.specs.Obligation.{for_each, invariant}
use Rattle.obligation_lists.specs.declared.claims.Fact.TheVariants.{Invariant}
use Rattle.obligation_lists.proofs.Growing.{one_fact, next_facts, facts_as, for_each_next}
use Rattle.obligation_lists.proofs.facts.add_invariants_at.Goals as goal

pub loop-place-preserved : goal.loop-place-preserved
loop-place-preserved c =
    let counts = c.args.counts in
    let t = c.args.cycle in
    let k = c.loop-place.place in
    let here : k < counts.invariants = omega (arith, c.loop-place-test.true) in
    let stop : k + 1 ≤ counts.invariants = omega (arith, here) in (
      stop,
      facts_as counts _ _ _ _ _
          (next_facts counts _ _ _ _ _ _ c.loop-place.invariant.1
          (one_fact counts _ _ (Invariant k t) _ c.in_ok-push.ensures.items (λ m last fits. (here, fits))))
          (λ m p h. for_each_next (λ i. invariant i t ∷ []) k),
    )

pub returns : goal.returns
returns c =
    facts_as c.args.counts _ _ _ _ _ c.loop-place.invariant.1
    (λ m p h. let end : c.loop-place.place ≡ length p.invariants = omega (arith, c.loop-place.invariant.0, c.loop-place-test.false, h.invariants) in
    ap (λ n. for_each (λ i. invariant i c.args.cycle ∷ []) 0 n) end)
