use Rattle.input_free.proofs.Memories.{memories_are_free}
use Rattle.input_free.proofs.laws.memories_do_not_depend_on_inputs.Goals as goal

pub returns : goal.returns
returns c = memories_are_free
