use Rattle.check_limits.proofs.Once.{one_limit}
use Rattle.check_limits.proofs.laws.a_design_has_one_limit.Goals as goal

pub returns : goal.returns
returns c = one_limit c.an_accepted_design_has_cycles.ensures c.registers_stand_in_one_order.ensures
