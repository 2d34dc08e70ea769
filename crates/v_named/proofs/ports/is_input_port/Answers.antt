use Rattle.std.proofs.Common.{ap, ap₂, ◌∙◌, ◌&&◌}
use Rattle.verilog_designs.specs.Ports.{is_input}
use Rattle.v_syntax.specs.Source.{module_of}
use Rattle.v_named.proofs.Directions.{listed-so, directions}
use Rattle.v_named.proofs.ports.is_input_port.Goals as goal

pub returns : goal.returns
returns c =
    let m = module_of c.args.within.now in
    c.both.ensures
    ∙ ap₂ (λ a b. a && b) (c.is_listed.ensures ∙ listed-so c.args.name.now m.ports) (c.is_input.ensures ∙ ap is_input (c.direction.ensures ∙ directions m c.args.name.now))
