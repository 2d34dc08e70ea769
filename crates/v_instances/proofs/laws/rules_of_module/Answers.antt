use Rattle.v_instances.proofs.Whole.{module-whole}
use Rattle.v_instances.proofs.laws.rules_of_module.Goals as goal

pub returns : goal.returns
returns c = module-whole
