use Rattle.verilog_order.proofs.Drivers.{assigned_grounded, block_grounded, input_grounded, output_grounded, undriven_grounded}
use Rattle.verilog_order.proofs.laws.a_bit_is_grounded_by_its_driver.Goals as goal

pub returns : goal.returns
returns c =
    record { assigned = assigned_grounded; by_block = block_grounded; input = input_grounded; output = output_grounded; undriven = undriven_grounded }
