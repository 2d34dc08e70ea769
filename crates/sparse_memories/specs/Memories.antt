-- Memories of a pool: what their words are, and what it is for a pool to keep them.
use Rattle.std.specs.Prelude.{ℕ, List}
use Rattle.sparse_memories.specs.declared.pool.Memory.{Memory}
use Rattle.sparse_memories.specs.Nodes.{Content, words_at, IsTree, KeepsTrees}

-- The memory is one of 2^depth words of the pool.
abbrev pub IsMemory : Content → ℕ → Memory → Type 0
IsMemory p depth m = IsTree p.nodes depth m.0

-- its words by ascending address
abbrev pub words_of : Content → ℕ → Memory → List ℕ
words_of p depth m = words_at p.nodes depth m.0

-- Each memory of the one pool is one of the other, with the same words.
abbrev pub Keeps : Content → Content → Type 0
Keeps p q = KeepsTrees p.nodes q.nodes
