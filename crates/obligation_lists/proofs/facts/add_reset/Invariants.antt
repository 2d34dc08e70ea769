use Rattle.std.proofs.Common.{◌≤◌, [], ◌∷◌}
use Rattle.refinement.specs.Obligation.{for_each, reset_active}
use Rattle.obligation_lists.specs.Growth.{AddsFacts}
use Rattle.obligation_lists.proofs.facts.add_reset.Given as goal

abbrev pub invariant-loop-cycle : goal.invariant-loop-cycle
invariant-loop-cycle l =
    (l.cycle ≤ l.fn.counts.reset_cycles)
    × AddsFacts l.fn.counts l.fn.facts.items l.facts.items (λ p. for_each (λ t. reset_active t ∷ []) 0 l.cycle) (λ m last. l.fn.counts.reset_cycles ≤ last)
