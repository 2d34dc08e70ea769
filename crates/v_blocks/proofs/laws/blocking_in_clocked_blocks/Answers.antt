use Rattle.v_blocks.proofs.Blocks.{clocked}
use Rattle.v_blocks.proofs.laws.blocking_in_clocked_blocks.Goals as goal

pub returns : goal.returns
returns c = clocked
