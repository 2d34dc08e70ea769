-- Copies of memories from one pool in another.
use Rattle.std.specs.Prelude.{ℕ, suc, ◌≡◌, List, length, slice_index_or}
use Rattle.sparse_memories.specs.declared.copies.Copied.{Copied}
use Rattle.sparse_memories.specs.Nodes.{Nodes, words_at, IsTree}

abbrev pub copy_at : List Copied → ℕ → Copied
copy_at cs k = slice_index_or cs k (record { depth = 0; link = 0 })

-- Where a branch has a copy, its tree of that depth has the same words there.
abbrev pub AreCopies : List Copied → Nodes → Nodes → Type 0
AreCopies cs p q =
    (length cs ≡ length p.branches)
    × ((k d : ℕ) → (copy_at cs k).depth ≡ suc d → IsTree p (suc d) k → IsTree q (suc d) (copy_at cs k).link × (words_at q (suc d) (copy_at cs k).link ≡ words_at p (suc d) k))
