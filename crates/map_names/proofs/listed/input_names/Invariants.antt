use Rattle.std.proofs.Common.{◌≡◌, ◌++◌, map, drop}
use Rattle.ila_model.specs.Model.{model_of}
use Rattle.map_rules.specs.Case.{input_names}
use Rattle.map_names.specs.Texts.{texts}
use Rattle.map_names.proofs.listed.input_names.Given as goal

abbrev pub invariant-loop-place : goal.invariant-loop-place
invariant-loop-place l = (texts l.names.items ++ map (λ i. i.input_name) (drop l.place (model_of l.model).inputs)) ≡ input_names (model_of l.model)
