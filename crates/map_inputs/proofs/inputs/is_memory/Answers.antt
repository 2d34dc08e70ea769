use Rattle.std.proofs.Common.{◌∙◌, ap}
use Rattle.verilog_meaning.specs.Expression.{is_memory}
use Rattle.map_inputs.proofs.inputs.is_memory.Goals as goal

pub returns : goal.returns
returns c = c.has_addresses.ensures ∙ ap is_memory c.object.ensures
