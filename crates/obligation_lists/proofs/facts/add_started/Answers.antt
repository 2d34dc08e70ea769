use Rattle.std.proofs.Common.{arith}
use Rattle.obligation_lists.specs.declared.claims.Fact.TheVariants.{Start}
use Rattle.obligation_lists.proofs.Growing.{one_fact, next_facts, fits_as}
use Rattle.obligation_lists.proofs.facts.add_started.Goals as goal

pub returns : goal.returns
returns c =
    next_facts c.args.counts _ _ _ _ _ _
    (next_facts c.args.counts _ _ _ _ _ _ (fits_as _ _ _ _ _ _ c.in_ok-add_invariants_at.ensures (λ m last fits. omega arith))
    (fits_as _ _ _ _ _ _ c.in_ok-add_premises.ensures (λ m last fits. omega arith)))
    (one_fact c.args.counts _ _ (Start 0) _ c.in_ok-push.ensures.items (λ m last fits. omega arith))
