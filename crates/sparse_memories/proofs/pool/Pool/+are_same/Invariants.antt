use Rattle.sparse_memories.proofs.pool.Pool.+are_same.Given as goal

abbrev pub decreases-are_same : goal.decreases-are_same
decreases-are_same l = l.level
