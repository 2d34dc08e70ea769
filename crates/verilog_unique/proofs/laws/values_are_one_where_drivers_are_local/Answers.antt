use Rattle.verilog_unique.proofs.Unique.{one_value}
use Rattle.verilog_unique.proofs.laws.values_are_one_where_drivers_are_local.Goals as goal

pub returns : goal.returns
returns c = one_value
