use Rattle.std.proofs.Common.{◌≤◌, ◌-◌}
use Rattle.refinement.specs.Obligation.{not_ended}
use Rattle.obligation_lists.specs.Within.{IsInstructionPlace}
use Rattle.obligation_lists.specs.Growth.{AddsFacts}
use Rattle.obligation_lists.proofs.facts.add_not_ended.Given as goal

abbrev pub invariant-loop-cycle : goal.invariant-loop-cycle
invariant-loop-cycle l =
    (1 ≤ l.cycle)
    × (l.cycle - 1 ≤ l.fn.cycles - 1)
    × AddsFacts l.fn.counts l.fn.facts.items l.facts.items (λ p. not_ended p l.fn.instruction l.cycle)
    (λ m last. IsInstructionPlace m l.fn.instruction × (l.fn.cycles ≤ last))
