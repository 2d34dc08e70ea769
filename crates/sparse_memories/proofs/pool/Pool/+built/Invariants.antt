use Rattle.sparse_memories.proofs.pool.Pool.+built.Given as goal

abbrev pub decreases-built : goal.decreases-built
decreases-built l = l.level
