use Rattle.obligation_lists.specs.declared.claims.Fact.TheVariants.{NoCommit}
use Rattle.obligation_lists.proofs.Growing.{one_fact, next_facts, fits_as}
use Rattle.obligation_lists.proofs.facts.add_running.Goals as goal

pub returns : goal.returns
returns c =
    next_facts c.args.counts _ _ _ _ _ _ (fits_as _ _ _ _ _ _ c.in_ok-add_running_at.ensures (λ m last fits. fits.1))
    (one_fact c.args.counts _ _ (NoCommit c.args.instruction c.args.cycle) _ c.in_ok-push.ensures.items (λ m last fits. fits))
