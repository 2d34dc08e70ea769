use Rattle.obligation_lists.specs.declared.claims.Fact.TheVariants.{ResetInactive}
use Rattle.obligation_lists.proofs.Growing.{one_fact, next_facts}
use Rattle.obligation_lists.proofs.facts.add_premises.Goals as goal

pub returns : goal.returns
returns c =
    next_facts c.args.counts _ _ _ _ _ _ (one_fact c.args.counts _ _ (ResetInactive c.args.cycle) _ c.in_ok-push.ensures.items (λ m last fits. fits))
    c.in_ok-add_assumed.ensures
