use Rattle.v_undriven.proofs.OneModule.{as-the-rule}
use Rattle.v_undriven.proofs.laws.undriven_bits_of_one_module.Goals as goal

pub returns : goal.returns
returns c = as-the-rule
