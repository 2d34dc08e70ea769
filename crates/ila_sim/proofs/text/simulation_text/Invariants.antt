use Rattle.std.proofs.Common.{◌≡◌, suc, ◌++◌, drop, map}
use Rattle.scripts.specs.Simulation.{simulation_text, outcome_lines}
use Rattle.ila_model.specs.Model.{model_of}
use Rattle.ila_child.specs.Step.{outcome_view}
use Rattle.ila_sim.proofs.text.simulation_text.Given as goal

abbrev pub invariant-loop-place : goal.invariant-loop-place
invariant-loop-place l =
    l.text.items ++ outcome_lines (model_of l.model) (suc l.place) (map (outcome_view (model_of l.model)) (drop l.place l.steps)) ≡ simulation_text (model_of l.model) (map (outcome_view (model_of l.model)) l.steps)
