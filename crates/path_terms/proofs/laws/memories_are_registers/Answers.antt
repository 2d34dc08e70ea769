use Rattle.path_terms.proofs.Cycles.{memories_are_registers}
use Rattle.path_terms.proofs.laws.memories_are_registers.Goals as goal

pub returns : goal.returns
returns c = memories_are_registers
