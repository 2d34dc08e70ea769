use Rattle.std.proofs.Common.{◌≡◌, ◌++◌, map, drop}
use Rattle.v_syntax.specs.Source.{port_of}
use Rattle.ila_model.specs.Model.{model_of}
use Rattle.emitted_modules.specs.Rtl.{input_port}
use Rattle.emitted_trees.proofs.ports.with_inputs.Given as goal

abbrev pub invariant-loop-place : goal.invariant-loop-place
invariant-loop-place l =
    map port_of l.all.items ++ map input_port (drop l.place (model_of l.model).inputs) ≡ map port_of l.fn.ports.items ++ map input_port (model_of l.model).inputs
