-- Values of the names of a run, from values of a store in which each word of a memory has a name of its own.
use Rattle.std.specs.Prelude.{ℕ, suc, ◌+◌, ◌^◌, List, [], ◌∷◌, slice_index_or}
use Rattle.wb_values.specs.Value.{Sort, memory, Value, number, words, as_number, Entries}
use Rattle.wb_terms.specs.declared.values.Env.{Env}
use Rattle.wb_terms.specs.Environment.{values_of}
use Rattle.ob_mem.specs.Words.{listed, word_count}

-- the number of the name so much further on than a first one
abbrev pub number_at : Env → (first k : ℕ) → ℕ
number_at e first k = as_number (slice_index_or (values_of e) (first + k) (number 0))

-- the value of the name at a place; the words of a memory have names from a start on
abbrev pub gathered_value : Env → Sort → (place start : ℕ) → Value
gathered_value e (memory a d) place start = words (listed (number_at e start) (2 ^ a))
gathered_value e s place start = number (number_at e place 0)

-- of the names from a place on, where the words of the first memory among them have names from a start on
abbrev pub gathered_values : Env → (place start : ℕ) → Entries Sort → List Value
gathered_values e place start [] = []
gathered_values e place start (n ∷ ns) = gathered_value e n.1 place start ∷ gathered_values e (suc place) (start + word_count n.1) ns

-- how many words their memories have
abbrev pub words_in : Entries Sort → ℕ
words_in [] = 0
words_in (n ∷ ns) = word_count n.1 + words_in ns
