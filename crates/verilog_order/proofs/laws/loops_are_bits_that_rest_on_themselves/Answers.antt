use Rattle.verilog_order.proofs.Loops.{no_loop, some_loop}
use Rattle.verilog_order.proofs.laws.loops_are_bits_that_rest_on_themselves.Goals as goal

pub returns : goal.returns
returns c = record { none = no_loop; some = some_loop }
