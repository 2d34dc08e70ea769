use Rattle.v_flow.proofs.Behind.{reads-sequence}
use Rattle.v_flow.proofs.laws.reads_in_turn.Goals as goal

pub returns : goal.returns
returns c = reads-sequence
