-- When values of the names without memories are those of the names with memories.
use Rattle.std.specs.Prelude.{◌≡◌, ℕ, ◌<◌, ⊤, List, length, Contains, slice_index}
use Rattle.wb_values.specs.Value.{Name, Sort, truth, word, memory, Entries, Value, number, as_words, Valuation, HasSort}
use Rattle.ob_mem.specs.declared.words.MemoryWord.{MemoryWord}
use Rattle.ob_mem.specs.Words.{entry_at}

-- The valuation gives each name of the table a value of its sort.
abbrev pub GivesSorts : Entries Sort → Valuation → Type 0
GivesSorts es v = (k : ℕ) → k < length es → HasSort (v (entry_at es k).0) (entry_at es k).1

-- a name keeps its value; that of a memory is free
abbrev pub KeepsValue : Sort → (old new : Value) → Type 0
KeepsValue (memory a d) x y = ⊤
KeepsValue _ x y = y ≡ x

-- w is v with the memories spread over words: each name of another sort keeps its value, and each new name has the value of its
-- memory's word at its address. The table `new` is the table `es` with the new names behind it.
pub record IsSpread (es new : Entries Sort) (rs : List MemoryWord) (v w : Valuation) : Type 0 where
  pub sorts : GivesSorts es v
  pub kept : (k : ℕ) → k < length es → KeepsValue (entry_at es k).1 (v (entry_at es k).0) (w (entry_at es k).0)
  pub words : (r : MemoryWord) → Contains rs r → w (entry_at new r.name.0).0 ≡ number (slice_index (as_words (v (entry_at es r.memory.0).0)) r.address)
