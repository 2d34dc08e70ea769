use Rattle.input_free.proofs.Free.{inputs_are_not_seen}
use Rattle.input_free.proofs.laws.inputs_are_not_seen.Goals as goal

pub returns : goal.returns
returns c = inputs_are_not_seen
