use Rattle.std.proofs.Common.{◌≡◌, take}
use Rattle.model_meaning.specs.Model.{states_of}
use Rattle.ila_model.specs.Model.{model_of}
use Rattle.ila_child.specs.State.{initial_values}
use Rattle.ila_child.proofs.states.initial_state.Given as goal

abbrev pub invariant-loop-place : goal.invariant-loop-place
invariant-loop-place l = l.values ≡ take l.place (initial_values (states_of (model_of l.model).top))
