use Rattle.verilog_order.proofs.Turns.{all_settled}
use Rattle.verilog_order.proofs.laws.all_bits_are_all_values.Goals as goal

pub returns : goal.returns
returns c = all_settled
