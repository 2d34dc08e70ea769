use Rattle.std.proofs.Common.{take}
use Rattle.model_meaning.specs.Model.{states_of}
use Rattle.refinement.specs.Obligation.{initial, state_obligations, with_initial_values}
use Rattle.ila_model.specs.Model.{model_of}
use Rattle.obligation_lists.specs.declared.claims.MapCounts.{MapCounts}
use Rattle.obligation_lists.specs.Claims.{hypotheses_of}
use Rattle.obligation_lists.specs.Within.{AreHypothesesOf}
use Rattle.obligation_lists.specs.Growth.{Adds}
use Rattle.obligation_lists.proofs.groups.add_initial.Given as goal

abbrev pub invariant-loop-place : goal.invariant-loop-place
invariant-loop-place l =
    (counts : MapCounts) → AreHypothesesOf (model_of l.model) counts l.fn.group.cycles l.fn.group.hypotheses
    → Adds (model_of l.model) counts l.fn.list.items l.list.items
    (λ p. state_obligations l.fn.group.text.now l.fn.group.cycles (hypotheses_of p l.fn.group.hypotheses) (λ n. initial n l.fn.group.cycles)
    (with_initial_values (take l.place (states_of (model_of l.model).top))))
