use Rattle.std.proofs.Common.{◌≡◌, ◌++◌, map, drop}
use Rattle.model_meaning.specs.Model.{states_of}
use Rattle.model_meaning.specs.Invariant.{state_names}
use Rattle.ila_model.specs.Model.{model_of}
use Rattle.emitted_maps.proofs.names.state_names.Given as goal

abbrev pub invariant-loop-place : goal.invariant-loop-place
invariant-loop-place l =
    let top = (model_of l.model).top in
    map (λ n. n.now) l.states.items ++ map (λ s. s.state_name) (drop l.place (states_of top)) ≡ state_names top
