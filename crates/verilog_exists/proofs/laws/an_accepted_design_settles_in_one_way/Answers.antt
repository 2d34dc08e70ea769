use Rattle.verilog_exists.proofs.Exists.{one_settled}
use Rattle.verilog_exists.proofs.laws.an_accepted_design_settles_in_one_way.Goals as goal

pub returns : goal.returns
returns c = one_settled
