use Rattle.std.proofs.Common.{drop}
use Rattle.test_paths.proofs.Parts.{AreNoMemories}
use Rattle.test_paths.proofs.fit.are_no_memories.Given as goal

abbrev pub invariant-loop-declaration : goal.invariant-loop-declaration
invariant-loop-declaration l = AreNoMemories (drop l.declaration-index l.declarations) → AreNoMemories l.declarations
