use Rattle.design_cycles.proofs.Order.{one_order}
use Rattle.design_cycles.proofs.laws.registers_stand_in_one_order.Goals as goal

pub returns : goal.returns
returns c = one_order
