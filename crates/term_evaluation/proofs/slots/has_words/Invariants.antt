use Rattle.std.proofs.Common.{◌≡◌, ◌<◌, ℕ, get_or}
use Rattle.sparse_memories.specs.Memories.{words_of}
use Rattle.term_evaluation.proofs.slots.has_words.Given as goal

abbrev pub invariant-loop-k : goal.invariant-loop-k
invariant-loop-k l = (j : ℕ) → j < l.k → get_or (words_of l.pool l.depth l.memory) j 0 ≡ get_or l.words j 0
