use Rattle.std.proofs.Common.{◌∙◌, ap}
use Rattle.verilog_designs.specs.Ports.{is_input}
use Rattle.v_clocks.proofs.Walks.{input_is}
use Rattle.v_clocks.proofs.connected.has_input.Goals as goal

pub returns : goal.returns
returns c = λ m i. input_is m c.args.port.now _ (c.is_input.ensures ∙ ap is_input (c.direction_under.ensures ∙ i.directions c.args.port.now))
