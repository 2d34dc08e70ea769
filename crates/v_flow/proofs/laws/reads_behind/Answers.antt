use Rattle.v_flow.proofs.Behind.{reads-behind}
use Rattle.v_flow.proofs.laws.reads_behind.Goals as goal

pub returns : goal.returns
returns c = reads-behind
