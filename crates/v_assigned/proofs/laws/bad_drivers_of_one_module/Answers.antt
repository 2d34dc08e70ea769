use Rattle.v_assigned.proofs.OneModule.{bad-drivers}
use Rattle.v_assigned.proofs.laws.bad_drivers_of_one_module.Goals as goal

pub returns : goal.returns
returns c = bad-drivers
