use Rattle.std.proofs.Common.{◌≤◌, [], ◌∷◌}
use Rattle.refinement.specs.Obligation.{for_each, assumed}
use Rattle.obligation_lists.specs.Growth.{AddsFacts}
use Rattle.obligation_lists.proofs.facts.add_assumed.Given as goal

abbrev pub invariant-loop-place : goal.invariant-loop-place
invariant-loop-place l =
    (l.place ≤ l.fn.counts.assume)
    × AddsFacts l.fn.counts l.fn.facts.items l.facts.items (λ p. for_each (λ k. assumed k l.fn.cycle ∷ []) 0 l.place) (λ m last. l.fn.cycle ≤ last)
