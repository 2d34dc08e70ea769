use Rattle.v_blocks.proofs.Blocks.{combinational}
use Rattle.v_blocks.proofs.laws.nonblocking_in_combinational_blocks.Goals as goal

pub returns : goal.returns
returns c = combinational
