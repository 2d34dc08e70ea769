-- Memories as trees over the bits of an address, highest bit first, in a pool of nodes that they share.
use Rattle.std.specs.Prelude.{ℕ, zero, suc, ◌^◌, ◌≡◌, ◌<◌, ◌==◌, cond, List, [], ◌∷◌, ◌++◌, length, replicate, slice_index, slice_index_or}
use Rattle.sparse_memories.specs.declared.pool.Branch.{Branch}
use Rattle.sparse_memories.specs.declared.listing.SetWord.{SetWord}

-- The nodes of a pool: branches with two links each, and leaves with one word each.
-- A link is a place in the list of branches, or, at depth 0, in that of leaves.
pub record Nodes : Type 0 where
  pub branches : List Branch
  pub leaves : List ℕ

-- A pool: its nodes, and how many more of each kind find room in the memory that it has.
pub record Content : Type 0 where
  pub nodes : Nodes
  pub room : ℕ

abbrev pub branch_at : Nodes → ℕ → Branch
branch_at p k = slice_index_or p.branches k (record { lower = 0; upper = 0 })

-- The 2^depth words at a link, by ascending address: a leaf's word, or those of a branch's lower half and then those of its upper half.
abbrev pub words_at : Nodes → ℕ → ℕ → List ℕ
words_at p zero k = slice_index p.leaves k ∷ []
words_at p (suc d) k = words_at p d (branch_at p k).lower ++ words_at p d (branch_at p k).upper

-- The link leads to a tree of that depth, all nodes of which are in the pool.
abbrev pub IsTree : Nodes → ℕ → ℕ → Type 0
IsTree p zero k = k < length p.leaves
IsTree p (suc d) k = (k < length p.branches) × IsTree p d (branch_at p k).lower × IsTree p d (branch_at p k).upper

-- the words of a memory that is all zeros
abbrev pub zeros : ℕ → List ℕ
zeros depth = replicate (2 ^ depth) 0

-- Link 0 leads to zeros at each depth: the first branch leads to itself twice, and the first leaf has the word 0.
pub record HasZeros (p : Nodes) : Type 0 where
  pub branch : 0 < length p.branches
  pub leaf : 0 < length p.leaves
  pub lower : (branch_at p 0).lower ≡ 0
  pub upper : (branch_at p 0).upper ≡ 0
  pub word : slice_index p.leaves 0 ≡ 0

-- Each tree of the one list of nodes is one of the other, with the same words.
abbrev pub KeepsTrees : Nodes → Nodes → Type 0
KeepsTrees p q = (d k : ℕ) → IsTree p d k → IsTree q d k × (words_at q d k ≡ words_at p d k)

-- The words other than 0 of a list with their addresses, where its first word has this address.
abbrev pub set_words_from : ℕ → List ℕ → List SetWord
set_words_from a [] = []
set_words_from a (w ∷ ws) = cond (w == 0) (set_words_from (suc a) ws) (record { address = a; word = w } ∷ set_words_from (suc a) ws)
