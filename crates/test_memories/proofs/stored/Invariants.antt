use Rattle.sparse_memories.specs.Memories.{IsMemory}
use Rattle.test_memories.proofs.stored.Given as goal

abbrev pub invariant-loop-store : goal.invariant-loop-store
invariant-loop-store l = IsMemory l.pool l.depth l.memory
