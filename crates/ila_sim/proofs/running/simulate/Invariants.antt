use Rattle.std.proofs.Common.{IsTrue, List, ◌++◌, map, drop}
use Rattle.std.specs.List.{All, list_all}
use Rattle.scripts.specs.Script.{settables_of, first_state}
use Rattle.model_meaning.specs.Outcome.{Outcome}
use Rattle.scripts.specs.Simulation.{AreOutcomes}
use Rattle.ila_child.specs.State.{IsStateOf, state_valuation}
use Rattle.ila_model.specs.Model.{model_of}
use Rattle.ila_child.specs.Step.{outcome_view, IsWell}
use Rattle.ila_child.specs.Runs.{IsRunnerOf, state_in}
use Rattle.ila_sim.specs.Outcomes.{inputs_from}
use Rattle.ila_sim.specs.Scripts.{script_view}
use Rattle.ila_sim.specs.Sets.{are_right}
use Rattle.ila_sim.proofs.running.simulate.Given as goal

abbrev pub invariant-loop-sets : goal.invariant-loop-sets
invariant-loop-sets l = record {
  made : IsRunnerOf l.model.parts l.runner;
  well : All (IsWell (model_of l.model)) l.answers.items;
  state : IsStateOf (model_of l.model) (state_in l.model.parts l.runner);
  right : IsTrue (list_all (λ ss. are_right (settables_of (model_of l.model)).inputs ss.items) (drop l.sets-index l.sets-items));
  runs : (os : List Outcome) → AreOutcomes (model_of l.model) (state_valuation (model_of l.model) (state_in l.model.parts l.runner)) (inputs_from (model_of l.model) (drop l.sets-index l.sets-items)) os
      → AreOutcomes (model_of l.model) (first_state (model_of l.model) (script_view (settables_of (model_of l.model)) l.script)) (inputs_from (model_of l.model) l.script.inputs.items) (map (outcome_view (model_of l.model)) l.answers.items ++ os);
}
