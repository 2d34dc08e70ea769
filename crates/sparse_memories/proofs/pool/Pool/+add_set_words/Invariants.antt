use Rattle.sparse_memories.proofs.pool.Pool.+add_set_words.Given as goal

abbrev pub decreases-add_set_words : goal.decreases-add_set_words
decreases-add_set_words l = l.level
