use Rattle.std.proofs.Common.{◌≡◌, map, take}
use Rattle.ila_model.specs.Model.{model_of}
use Rattle.ila_child.specs.State.{sorts_of_inputs}
use Rattle.map_terms.specs.View.{wanted_view}
use Rattle.map_terms.proofs.states.wanted_inputs.Given as goal

abbrev pub invariant-loop-place : goal.invariant-loop-place
invariant-loop-place l = map wanted_view l.list.items ≡ take l.place (sorts_of_inputs (model_of l.model).inputs)
