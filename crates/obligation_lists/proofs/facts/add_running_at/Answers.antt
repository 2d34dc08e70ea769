use Rattle.obligation_lists.specs.declared.claims.Fact.TheVariants.{NoStart}
use Rattle.obligation_lists.proofs.Growing.{one_fact, next_facts}
use Rattle.obligation_lists.proofs.facts.add_running_at.Goals as goal

pub returns : goal.returns
returns c =
    next_facts c.args.counts _ _ _ _ _ _ c.in_ok-add_premises.ensures
    (one_fact c.args.counts _ _ (NoStart c.args.cycle) _ c.in_ok-push.ensures.items (λ m last fits. fits))
