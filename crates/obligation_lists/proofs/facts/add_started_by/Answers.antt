use Rattle.obligation_lists.specs.declared.claims.Fact.TheVariants.{Decoded}
use Rattle.obligation_lists.proofs.Growing.{one_fact, next_facts, fits_as}
use Rattle.obligation_lists.proofs.facts.add_started_by.Goals as goal

pub returns : goal.returns
returns c =
    next_facts c.args.counts _ _ _ _ _ _ (fits_as _ _ _ _ _ _ c.in_ok-add_started.ensures (λ m last fits. tt))
    (one_fact c.args.counts _ _ (Decoded c.args.instruction) _ c.in_ok-push.ensures.items (λ m last fits. fits))
