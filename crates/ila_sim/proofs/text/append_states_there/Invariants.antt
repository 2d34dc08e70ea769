use Rattle.std.proofs.Common.{◌≡◌, ◌++◌, drop}
use Rattle.model_meaning.specs.Model.{states_of}
use Rattle.ila_model.specs.Model.{model_of}
use Rattle.ila_child.specs.Runs.{state_in}
use Rattle.ila_sim.specs.Outcomes.{values_text}
use Rattle.ila_sim.proofs.text.append_states_there.Given as goal

abbrev pub invariant-loop-place : goal.invariant-loop-place
invariant-loop-place l =
    l.out.items ++ values_text (drop l.place (states_of (model_of l.model).top)) (drop l.place (state_in l.model.parts l.runner)) ≡ l.initial.out.items ++ values_text (states_of (model_of l.model).top) (state_in l.model.parts l.runner)
