use Rattle.verilog_exists.proofs.Runs.{next_exists}
use Rattle.verilog_exists.proofs.laws.an_accepted_design_has_next_registers.Goals as goal

pub returns : goal.returns
returns c = next_exists
