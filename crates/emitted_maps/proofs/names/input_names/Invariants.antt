use Rattle.std.proofs.Common.{◌≡◌, ◌++◌, map, drop}
use Rattle.ila_model.specs.Model.{model_of}
use Rattle.emitted_maps.proofs.names.input_names.Given as goal

abbrev pub invariant-loop-place : goal.invariant-loop-place
invariant-loop-place l =
    let all = (model_of l.model).inputs in
    map (λ n. n.now) l.inputs.items ++ map (λ i. i.input_name) (drop l.place all) ≡ map (λ i. i.input_name) all
