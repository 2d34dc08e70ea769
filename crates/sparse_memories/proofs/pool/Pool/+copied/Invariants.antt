use Rattle.sparse_memories.proofs.pool.Pool.+copied.Given as goal

abbrev pub decreases-copied : goal.decreases-copied
decreases-copied l = l.level
