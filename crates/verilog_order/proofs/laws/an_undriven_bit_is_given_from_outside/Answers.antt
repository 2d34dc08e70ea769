use Rattle.verilog_order.proofs.Turns.{undriven_given}
use Rattle.verilog_order.proofs.laws.an_undriven_bit_is_given_from_outside.Goals as goal

pub returns : goal.returns
returns c = undriven_given
