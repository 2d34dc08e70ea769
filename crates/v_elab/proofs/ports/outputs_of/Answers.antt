use Rattle.std.proofs.Common.{◌∙◌, ap, map}
use Rattle.verilog_meaning.specs.Settled.{port_order}
use Rattle.v_syntax.specs.Source.{module_of}
use Rattle.v_elab.specs.Names.{is_output_of, chosen}
use Rattle.v_elab.proofs.Outputs.{outputs_are}
use Rattle.v_elab.proofs.ports.outputs_of.Goals as goal

pub returns : goal.returns
returns c =
    c.in_ok-found.ensures
    ∙ ap (chosen (is_output_of c.args.names.now)) (ap (map (λ n. n.now)) c.deref.ensures.value ∙ c.in_ok-order.ensures)
    ∙ outputs_are c.requires.0 c.args.names.now (module_of c.args.within.now) (port_order (module_of c.args.within.now)) c.requires.1
