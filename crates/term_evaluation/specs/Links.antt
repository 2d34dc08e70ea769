-- What is kept of terms: words, and memories of a pool.
use Rattle.std.specs.Prelude.{ℕ, ◌≤◌, ◌≡◌, List, [], ◌∷◌, ⊤, Option, Some, None, IsTrue, slice_index_or}
use Rattle.sparse_memories.specs.Nodes.{Content}
use Rattle.sparse_memories.specs.Memories.{IsMemory, words_of}
use Rattle.sparse_memories.specs.declared.pool.Memory.{Memory}
use Rattle.wb_values.specs.Value as meaning
use Rattle.wb_values.specs.Value.{Sort, truth, word, memory, truth_value, number, words, Valuation, valuation_of, all_below}
use Rattle.model_meaning.specs.Term.{is_width, sort_of, val}
use Rattle.wb_bits.specs.declared.Word.{Word}
use Rattle.wb_terms.specs.Graph.{Graph, tree}
use Rattle.wb_terms.specs.Environment.{values_by_name}
use Rattle.wb_terms.specs.Held.{IsHeldBy}

-- what the names stand for, by their values
abbrev pub valuation_at : Graph → List meaning.Value → Valuation
valuation_at g xs = valuation_of (values_by_name g.names xs)

-- the value of a term of the store where the names have these values
abbrev pub value_at : Graph → List meaning.Value → ℕ → meaning.Value
value_at g xs k = val (tree g k) (valuation_at g xs)

-- The memory of the pool has the words of a value of the sort, where this is a sort of memories.
abbrev pub IsLinkTo : Content → Option Sort → meaning.Value → Memory → Type 0
IsLinkTo p None v m = ⊤
IsLinkTo p (Some truth) v m = ⊤
IsLinkTo p (Some (word u)) v m = ⊤
IsLinkTo p (Some (memory a d)) (truth_value b) m = ⊥
IsLinkTo p (Some (memory a d)) (number n) m = ⊥
IsLinkTo p (Some (memory a d)) (words ws) m = (a ≤ 16) × IsMemory p a m × (words_of p a m ≡ ws)

-- The memory of the pool has these words, whatever their number is.
abbrev pub IsLinkOf : Content → meaning.Value → Memory → Type 0
IsLinkOf p (truth_value b) m = ⊤
IsLinkOf p (number n) m = ⊤
IsLinkOf p (words ws) m = (d : ℕ) × (d ≤ 16) × IsMemory p d m × (words_of p d m ≡ ws)

-- The memory is one of the sort: of as many words,
abbrev pub IsTreeOf : Content → Sort → Memory → Type 0
IsTreeOf p truth m = ⊥
IsTreeOf p (word w) m = ⊥
IsTreeOf p (memory a d) m = (a ≤ 16) × IsMemory p a m

-- and each of them is of the sort's width, which is in range.
abbrev pub IsMemoryOf : Content → Sort → Memory → Type 0
IsMemoryOf p truth m = ⊥
IsMemoryOf p (word w) m = ⊥
IsMemoryOf p (memory a d) m = (a ≤ 16) × IsMemory p a m × IsTrue (is_width d) × IsTrue (all_below d (words_of p a m))

abbrev pub words_at_link : Content → Sort → Memory → List ℕ
words_at_link p truth m = []
words_at_link p (word w) m = []
words_at_link p (memory a d) m = words_of p a m

abbrev pub link_at : List Memory → ℕ → Memory
link_at ls k = slice_index_or ls k (record { 0 = 0 })

-- What is kept of a term stands for its value where the names have these values: its word,
abbrev pub IsWordHeld : Graph → List meaning.Value → List Word → ℕ → Type 0
IsWordHeld g xs ws k = (d : Word) → IsHeldBy (sort_of (tree g k)) (value_at g xs k) (slice_index_or ws k d).width (slice_index_or ws k d).value

-- and its memory.
abbrev pub IsLinkHeld : Graph → List meaning.Value → Content → List Memory → ℕ → Type 0
IsLinkHeld g xs p ls k = IsLinkTo p (sort_of (tree g k)) (value_at g xs k) (link_at ls k)

-- So does what is kept of each of these terms.
abbrev pub AreWordsHeld : Graph → List meaning.Value → List Word → List ℕ → Type 0
AreWordsHeld g xs ws [] = ⊤
AreWordsHeld g xs ws (k ∷ ks) = IsWordHeld g xs ws k × AreWordsHeld g xs ws ks

abbrev pub AreLinksHeld : Graph → List meaning.Value → Content → List Memory → List ℕ → Type 0
AreLinksHeld g xs p ls [] = ⊤
AreLinksHeld g xs p ls (k ∷ ks) = IsLinkHeld g xs p ls k × AreLinksHeld g xs p ls ks
