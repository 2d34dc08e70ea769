use Rattle.verilog_exists.proofs.Runs.{run_exists}
use Rattle.verilog_exists.proofs.laws.an_accepted_design_has_a_run_of_every_length.Goals as goal

pub returns : goal.returns
returns c = run_exists
