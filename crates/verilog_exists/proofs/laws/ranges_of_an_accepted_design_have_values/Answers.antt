use Rattle.verilog_exists.proofs.Valued.{ranges_have_values}
use Rattle.verilog_exists.proofs.laws.ranges_of_an_accepted_design_have_values.Goals as goal

pub returns : goal.returns
returns c = ranges_have_values
