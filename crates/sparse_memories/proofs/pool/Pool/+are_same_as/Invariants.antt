use Rattle.sparse_memories.proofs.pool.Pool.+are_same_as.Given as goal

abbrev pub decreases-are_same_as : goal.decreases-are_same_as
decreases-are_same_as l = l.level
