use Rattle.std.proofs.Common.{◌∙◌, ◌++◌, ◌∷◌, [], ap, map}
use Rattle.std.proofs.lemmas.List.{append_assoc}
use Rattle.wb_values.specs.Value.{truth}
use Rattle.verilog_trees.specs.Syntax.{input, output}
use Rattle.ila_model.specs.Model.{model_of}
use Rattle.emitted_designs.specs.Names.{clock_name, reset_name, go_name, start_name, commit_name}
use Rattle.emitted_modules.specs.Rtl as rtl
use Rattle.emitted_trees.proofs.Whole.{ports_joined}
use Rattle.emitted_trees.proofs.ports.port_list.Goals as goal

pub returns : goal.returns
returns c =
    ports_joined (rtl.port_of input clock_name truth ∷ rtl.port_of input reset_name truth ∷ rtl.port_of input go_name truth ∷ [])
    (map rtl.input_port (model_of c.args.model.now).inputs) _ _ _ _ _ _ c.in_ok-ports.ensures c.in_ok-ports-2.ensures c.in_ok-ports-3.ensures c.in_ok-ports-4.ensures
