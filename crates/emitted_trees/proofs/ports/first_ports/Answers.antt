use Rattle.std.proofs.Common.{◌∙◌, ◌++◌, ◌∷◌, [], ap, map}
use Rattle.wb_values.specs.Value.{truth}
use Rattle.verilog_trees.specs.Syntax.{input}
use Rattle.v_syntax.specs.Source.{port_of}
use Rattle.emitted_designs.specs.Names.{clock_name, reset_name, go_name}
use Rattle.emitted_modules.specs.Rtl as rtl
use Rattle.emitted_trees.proofs.ports.first_ports.Goals as goal

pub returns : goal.returns
returns c =
    c.in_ok-ports-3.ensures
    ∙ ap (λ xs. xs ++ rtl.port_of input go_name truth ∷ [])
    (c.in_ok-ports-2.ensures
    ∙ ap (λ xs. xs ++ rtl.port_of input reset_name truth ∷ [])
    (c.in_ok-ports.ensures ∙ ap (λ ps. map port_of ps ++ rtl.port_of input clock_name truth ∷ []) c.new-ports.ensures.items))
