use Rattle.std.proofs.Common.{◌≤◌}
use Rattle.model_meaning.specs.Model.{Model}
use Rattle.obligation_lists.specs.Within.{AreHypothesesOf}
use Rattle.obligation_lists.specs.Growth.{Adds}
use Rattle.obligation_lists.proofs.Growing.{invariant_lines}
use Rattle.obligation_lists.proofs.groups.add_invariants.Given as goal

abbrev pub invariant-loop-place : goal.invariant-loop-place
invariant-loop-place l =
    (l.place ≤ l.fn.counts.invariants)
    × ((m : Model) → AreHypothesesOf m l.fn.counts l.fn.group.cycles l.fn.group.hypotheses
    → Adds m l.fn.counts l.fn.list.items l.list.items (invariant_lines l.fn.group.text.now l.fn.group.cycles l.fn.group.hypotheses l.place))
