use Rattle.std.proofs.Common.{suc, IsTrue, List, ◌++◌, drop}
use Rattle.std.specs.List.{list_all}
use Rattle.scripts.specs.Script.{settables_of, first_state}
use Rattle.model_meaning.specs.Outcome.{Outcome}
use Rattle.scripts.specs.Simulation.{AreOutcomes, outcome_lines}
use Rattle.ila_child.specs.State.{IsStateOf, state_valuation}
use Rattle.ila_model.specs.Model.{model_of}
use Rattle.ila_child.specs.Runs.{IsRunnerOf, state_in}
use Rattle.ila_sim.specs.Outcomes.{IsToldFrom, inputs_from}
use Rattle.ila_sim.specs.Scripts.{script_view}
use Rattle.ila_sim.specs.Sets.{are_right}
use Rattle.ila_sim.proofs.running.simulated_text.Given as goal

abbrev pub invariant-loop-place : goal.invariant-loop-place
invariant-loop-place l = record {
  made : IsRunnerOf l.model.parts l.runner;
  state : IsStateOf (model_of l.model) (state_in l.model.parts l.runner);
  right : IsTrue (list_all (λ ss. are_right (settables_of (model_of l.model)).inputs ss.items) (drop l.place l.sets-items));
  runs : (os : List Outcome) → AreOutcomes (model_of l.model) (state_valuation (model_of l.model) (state_in l.model.parts l.runner)) (inputs_from (model_of l.model) (drop l.place l.sets-items)) os
      → IsToldFrom (model_of l.model) (first_state (model_of l.model) (script_view (settables_of (model_of l.model)) l.script)) (inputs_from (model_of l.model) l.script.inputs.items) (l.text.items ++ outcome_lines (model_of l.model) (suc l.place) os);
}
