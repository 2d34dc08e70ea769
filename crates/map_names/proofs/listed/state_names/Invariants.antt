use Rattle.std.proofs.Common.{◌≡◌, ◌++◌, map, drop}
use Rattle.model_meaning.specs.Model.{states_of}
use Rattle.model_meaning.specs.Invariant.{state_names}
use Rattle.ila_model.specs.Model.{model_of}
use Rattle.map_names.specs.Texts.{texts}
use Rattle.map_names.proofs.listed.state_names.Given as goal

abbrev pub invariant-loop-place : goal.invariant-loop-place
invariant-loop-place l =
    (texts l.names.items ++ map (λ s. s.state_name) (drop l.place (states_of (model_of l.model).top))) ≡ state_names (model_of l.model).top
