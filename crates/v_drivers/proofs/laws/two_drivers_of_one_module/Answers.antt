use Rattle.v_drivers.proofs.OneModule.{as-the-rule}
use Rattle.v_drivers.proofs.laws.two_drivers_of_one_module.Goals as goal

pub returns : goal.returns
returns c = as-the-rule
