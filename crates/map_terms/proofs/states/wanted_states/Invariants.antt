use Rattle.std.proofs.Common.{◌≡◌, map, take}
use Rattle.model_meaning.specs.Model.{states_of}
use Rattle.ila_model.specs.Model.{model_of}
use Rattle.ila_child.specs.State.{sorts_of_states}
use Rattle.map_terms.specs.View.{wanted_view}
use Rattle.map_terms.proofs.states.wanted_states.Given as goal

abbrev pub invariant-loop-place : goal.invariant-loop-place
invariant-loop-place l = map wanted_view l.list.items ≡ take l.place (sorts_of_states (states_of (model_of l.model).top))
