use Rattle.verilog_order.proofs.Drivers.{assigned_depends, block_depends, input_depends, output_depends, stays_inside}
use Rattle.verilog_order.proofs.laws.a_bit_depends_by_its_one_driver.Goals as goal

pub returns : goal.returns
returns c = record { assigned = assigned_depends; by_block = block_depends; input = input_depends; output = output_depends; inside = stays_inside }
