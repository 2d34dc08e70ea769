use Rattle.sparse_memories.proofs.pool.Pool.+stored.Given as goal

abbrev pub decreases-stored : goal.decreases-stored
decreases-stored l = l.level
