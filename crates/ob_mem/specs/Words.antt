-- The words of memories, and the names that stand for them.
use Rattle.std.specs.Prelude.{◌≡◌, ℕ, zero, suc, ◌+◌, ◌<◌, ◌≤◌, ◌^◌, ◌==◌, None, cond, List, [], ◌∷◌, ◌++◌, map, replicate, length, slice_index_or}
use Rattle.std.specs.Fmt.{decimal}
use Rattle.wb_values.specs.Value.{Name, Sort, truth, word, memory, Entries, entry_of}
use Rattle.ob_mem.specs.declared.words.MemoryWord.{MemoryWord}

-- how many words a value of the sort has, and how many bits each
abbrev pub word_count : Sort → ℕ
word_count (memory a d) = 2 ^ a
word_count _ = 0

abbrev pub word_width : Sort → ℕ
word_width (memory a d) = d
word_width _ = 0

-- the values of a function at the first numbers, in order
abbrev pub listed : {A : Type 0} → (ℕ → A) → ℕ → List A
listed f zero = []
listed f (suc n) = listed f n ++ f n ∷ []

-- the word at an address of the memory at a place of the table of names; its own name is so much further on than a first one
abbrev pub word_at : (memory first address : ℕ) → MemoryWord
word_at m n i = record { memory = record { 0 = m }; address = i; name = record { 0 = n + i } }

-- The words of all memories, in the order of declaration and by ascending address. The names follow on one another from a first one on.
abbrev pub words_of : (place first : ℕ) → Entries Sort → List MemoryWord
words_of m n [] = []
words_of m n (e ∷ es) = listed (word_at m n) (word_count e.1) ++ words_of (suc m) (n + word_count e.1) es

-- the place of the first word's name for each name, where the names of all words follow on one another
abbrev pub starts_of : (first : ℕ) → Entries Sort → List ℕ
starts_of n [] = []
starts_of n (e ∷ es) = n ∷ starts_of (n + word_count e.1) es

-- the declared name at a place, with its sort
abbrev pub entry_at : Entries Sort → ℕ → Name × Sort
entry_at es k = slice_index_or es k ([], truth)

-- with how many `#` (byte 35) a name begins
abbrev pub marks_of : Name → ℕ
marks_of [] = 0
marks_of (c ∷ cs) = cond (c == 35) (suc (marks_of cs)) 0

-- no name begins with so many of them
abbrev pub AllHaveFewer : ℕ → Entries Sort → Type 0
AllHaveFewer marks es = (k : ℕ) → k < length es → marks_of (entry_at es k).0 < marks

-- A new name: so many `#`, then its place in the table of names.
abbrev pub name_of_word : (marks place : ℕ) → Name
name_of_word marks place = replicate marks 35 ++ decimal place

-- the new name of a word of a memory, with its sort
abbrev pub entry_of_word : (marks : ℕ) → Entries Sort → MemoryWord → Name × Sort
entry_of_word marks es r = (name_of_word marks r.name.0, word (word_width (entry_at es r.memory.0).1))

-- The table of names with new ones behind it, one for each word.
pub record HasWords (es new : Entries Sort) (rs : List MemoryWord) : Type 0 where
  pub marks : ℕ
  pub unlike : AllHaveFewer marks es
  pub names : new ≡ es ++ map (entry_of_word marks es) rs

-- no name that a later word may get is in the table
abbrev pub AreFree : (marks : ℕ) → Entries Sort → Type 0
AreFree marks es = (k : ℕ) → length es ≤ k → k < 2 ^ 64 → entry_of es (name_of_word marks k) ≡ None

-- The words of the memory at a place are added to the list, and their names to the table.
pub record AddsWords (marks : ℕ) (es : Entries Sort) (memory : ℕ) (ns ms : Entries Sort) (rs qs : List MemoryWord) : Type 0 where
  pub list : qs ≡ rs ++ listed (word_at memory (length ns)) (word_count (entry_at es memory).1)
  pub names : ms ≡ ns ++ map (entry_of_word marks es) (listed (word_at memory (length ns)) (word_count (entry_at es memory).1))
