use Rattle.std.proofs.Common.{◌≡◌, ◌+◌, ◌<◌, ◌≤◌, [], ◌∷◌, ap, arith}
use Rattle.refinement.specs.Obligation.{for_each, reset_active}
use Rattle.obligation_lists.specs.declared.claims.Fact.TheVariants.{ResetActive}
use Rattle.obligation_lists.proofs.Growing.{one_fact, next_facts, facts_as, for_each_next}
use Rattle.obligation_lists.proofs.facts.add_reset.Goals as goal

pub loop-cycle-preserved : goal.loop-cycle-preserved
loop-cycle-preserved c =
    let counts = c.args.counts in
    let t = c.loop-cycle.cycle in
    let here : t < counts.reset_cycles = omega (arith, c.loop-cycle-test.true) in
    let stop : t + 1 ≤ counts.reset_cycles = omega (arith, here) in (
      stop,
      facts_as counts _ _ _ _ _
          (next_facts counts _ _ _ _ _ _ c.loop-cycle.invariant.1
          (one_fact counts _ _ (ResetActive t) _ c.in_ok-push.ensures.items (λ m last fits. omega (arith, here, fits))))
          (λ m p h. for_each_next (λ i. reset_active i ∷ []) t),
    )

pub returns : goal.returns
returns c =
    facts_as c.args.counts _ _ _ _ _ c.loop-cycle.invariant.1
    (λ m p h. let end : c.loop-cycle.cycle ≡ p.reset_cycles = omega (arith, c.loop-cycle.invariant.0, c.loop-cycle-test.false, h.reset_cycles) in
    ap (λ n. for_each (λ i. reset_active i ∷ []) 0 n) end)
