use Rattle.check_limits.proofs.Declaring.{as_declared}
use Rattle.check_limits.proofs.laws.registers_count_as_declared.Goals as goal

pub returns : goal.returns
returns c = as_declared
