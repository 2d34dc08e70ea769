use Rattle.std.proofs.Common.{◌≡◌, ◌+◌, ◌-◌, ◌<◌, ◌≤◌, arith}
use Rattle.obligation_lists.specs.declared.claims.Fact.TheVariants.{NoCommit}
use Rattle.obligation_lists.proofs.Growing.{one_fact, next_facts, facts_as, fits_as}
use Rattle.obligation_lists.proofs.Commands.{not_ended_more, not_ended_same}
use Rattle.obligation_lists.proofs.facts.add_not_ended.Goals as goal

pub loop-cycle-init : goal.loop-cycle-init
loop-cycle-init c =
    let j = c.args.instruction in
    let first : 1 ≤ 1 = omega arith in
    let low : 1 - 1 ≤ c.args.cycles - 1 = omega arith in (
      first,
      low,
      next_facts c.args.counts _ _ _ _ _ _ (fits_as _ _ _ _ _ _ c.in_ok-add_started_by.ensures (λ m last fits. fits.0))
          (one_fact c.args.counts _ _ (NoCommit j 0) _ c.in_ok-push.ensures.items (λ m last fits. (fits.0, omega arith))),
    )

pub loop-cycle-preserved : goal.loop-cycle-preserved
loop-cycle-preserved c =
    let j = c.args.instruction in
    let t = c.loop-cycle.cycle in
    let here : t < c.args.cycles = omega (arith, c.loop-cycle-test.true) in
    let first : 1 ≤ t + 1 = omega arith in
    let low : t + 1 - 1 ≤ c.args.cycles - 1 = omega (arith, here) in (
      first,
      low,
      facts_as c.args.counts _ _ _ _ _
          (next_facts c.args.counts _ _ _ _ _ _ c.loop-cycle.invariant.2
          (fits_as _ _ _ _ _ _ c.in_ok-add_running.ensures (λ m last fits. (fits.0, omega (arith, here, fits.1)))))
          (λ m p h. not_ended_more p j t c.loop-cycle.invariant.0),
    )

pub returns : goal.returns
returns c =
    let t = c.loop-cycle.cycle in
    let end : t - 1 ≡ c.args.cycles - 1 = omega (arith, c.loop-cycle-test.false, c.loop-cycle.invariant.1) in
    facts_as c.args.counts _ _ _ _ _ c.loop-cycle.invariant.2 (λ m p h. not_ended_same p c.args.instruction t c.args.cycles end)
