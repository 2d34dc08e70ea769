use Rattle.verilog_exists.proofs.Exists.{settled_exists}
use Rattle.verilog_exists.proofs.laws.an_accepted_design_has_a_settled_valuation.Goals as goal

pub returns : goal.returns
returns c = settled_exists
