use Rattle.v_loops.proofs.OneModule.{as-the-rule}
use Rattle.v_loops.proofs.laws.loops_of_one_module.Goals as goal

pub returns : goal.returns
returns c = as-the-rule
