use Rattle.std.proofs.Common.{◌≡◌, ◌≤◌, sym, ap, arith}
use Rattle.refinement.specs.Obligation.{ended_at}
use Rattle.obligation_lists.specs.declared.claims.Fact.TheVariants.{Commit}
use Rattle.obligation_lists.proofs.Growing.{one_fact, next_facts, facts_as, fits_as}
use Rattle.obligation_lists.proofs.Commands.{ended_later}
use Rattle.obligation_lists.proofs.facts.add_ended_at.Goals as goal

pub returns : goal.returns
returns c =
    let j = c.args.instruction in
    let t = c.args.cycle in
    let later : 1 ≤ t = omega (arith, c.if-cycle-eq0.false) in
    facts_as c.args.counts _ _ _ _ _
    (next_facts c.args.counts _ _ _ _ _ _
    (next_facts c.args.counts _ _ _ _ _ _
    (fits_as _ _ _ _ _ _ c.in_ok-add_not_ended.ensures (λ m last fits. (fits.0, omega (arith, fits.1))))
    (fits_as _ _ _ _ _ _ c.in_ok-add_running_at.ensures (λ m last fits. omega (arith, fits.1))))
    (one_fact c.args.counts _ _ (Commit j t) _ c.in_ok-push-2.ensures.items (λ m last fits. (fits.0, omega (arith, fits.1)))))
    (λ m p h. ended_later p j t later)

pub returns-then-cycle-eq0 : goal.returns-then-cycle-eq0
returns-then-cycle-eq0 c =
    let j = c.args.instruction in
    let t = c.args.cycle in
    let first : t ≡ 0 = omega (arith, c.if-cycle-eq0.true) in
    facts_as c.args.counts _ _ _ _ _
    (next_facts c.args.counts _ _ _ _ _ _ (fits_as _ _ _ _ _ _ c.in_ok-add_started_by.ensures (λ m last fits. fits.0))
    (one_fact c.args.counts _ _ (Commit j 0) _ c.in_ok-push.ensures.items (λ m last fits. (fits.0, omega arith))))
    (λ m p h. ap (ended_at p j) (sym first))
