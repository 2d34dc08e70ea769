-- The parts of a design as terms of a store, and what they are worth at a cycle.
use Rattle.std.specs.Prelude.{ℕ, Bool, true, false, ◌&&◌, ◌==◌, ◌+◌, ◌^◌, nat_lt, nat_le, ◌++◌, List, [], ◌∷◌, map, take, drop, length, Option, Some, None, is_some, is_none, unwrap_or}
use Rattle.wb_values.specs.Value.{Name, Sort, truth, word, memory, all_below, Value, Entries, Valuation, valuation_of}
use Rattle.model_meaning.specs.Term.{val, sort_of, same_sort}
use Rattle.wb_terms.specs.Graph.{Graph, tree}
use Rattle.wb_terms.specs.Environment.{values_by_name}
use Rattle.v_design.specs.Registers.{CountedBits}

-- A store of terms whose names are the design's registers and then the inputs of its top; the term of each register's value after the
-- clock's edge, in the order of the registers; which of their bits count, in that order too; the term of what each net and variable settles to, by its dotted name; and the
-- outputs of the top, in the order of its ports.
pub record Parts : Type 0 where
  pub graph : Graph
  pub register_count : ℕ
  pub next : List ℕ
  pub bits : List CountedBits
  pub settled : Name → Option ℕ
  pub outputs : List Name

-- the registers with their sorts
abbrev pub registers_of : Parts → Entries Sort
registers_of d = take d.register_count d.graph.names

abbrev pub under_names : Entries Sort → List CountedBits → Entries CountedBits
under_names [] cs = []
under_names (n ∷ ns) [] = []
under_names (n ∷ ns) (c ∷ cs) = (n.0, c) ∷ under_names ns cs

-- the bits that count, by the registers' names
abbrev pub bits_by_name : Parts → Entries CountedBits
bits_by_name d = under_names (registers_of d) d.bits

-- the inputs of the top, but for the clock, with their sorts
abbrev pub inputs_of : Parts → Entries Sort
inputs_of d = drop d.register_count d.graph.names

-- ---- what holds of the parts of every design

abbrev pub has_sort : Sort → Option Sort → Bool
has_sort s None = false
has_sort s (Some t) = same_sort t s

-- The term stands in the store, and is of the sort.
abbrev pub is_term_of : Graph → Sort → ℕ → Bool
is_term_of g s id = nat_lt id (length g.nodes) && has_sort s (sort_of (tree g id))

-- There is a term for each entry, of its sort.
abbrev pub are_terms_of : Graph → Entries Sort → List ℕ → Bool
are_terms_of g [] [] = true
are_terms_of g [] (id ∷ ids) = false
are_terms_of g (n ∷ ns) [] = false
are_terms_of g (n ∷ ns) (id ∷ ids) = is_term_of g n.1 id && are_terms_of g ns ids

-- The term, if there is one, stands in the store.
abbrev pub is_within : Graph → Option ℕ → Bool
is_within g None = true
is_within g (Some id) = nat_lt id (length g.nodes)

abbrev pub is_word : Sort → Bool
is_word truth = false
is_word (word w) = true
is_word (memory a w) = false

abbrev pub are_words : Entries Sort → Bool
are_words [] = true
are_words (n ∷ ns) = is_word n.1 && are_words ns

-- Bits of registers of a sort: of one word, without addresses, or of at most the words of a memory, with addresses below 65,536.
abbrev pub are_bits_of : Sort → CountedBits → Bool
are_bits_of truth c = false
are_bits_of (word w) c = is_none c.least && (length c.masks == 1 && all_below w c.masks)
are_bits_of (memory a w) c =
    is_some c.least && (nat_le (length c.masks) (2 ^ a) && (nat_le (unwrap_or c.least 0 + length c.masks) 65536 && all_below w c.masks))

-- There are bits for each entry, of its sort.
abbrev pub are_bits_for : Entries Sort → List CountedBits → Bool
are_bits_for [] [] = true
are_bits_for [] (c ∷ cs) = false
are_bits_for (n ∷ ns) [] = false
are_bits_for (n ∷ ns) (c ∷ cs) = are_bits_of n.1 c && are_bits_for ns cs

-- ---- a cycle

-- What stands for the names of the store, where the registers and the inputs have these values in their order.
abbrev pub at_cycle : Parts → (registers inputs : List Value) → Valuation
at_cycle d rs is = valuation_of (values_by_name d.graph.names (rs ++ is))

-- the value of a term there
abbrev pub value_in : Parts → (registers inputs : List Value) → ℕ → Value
value_in d rs is id = val (tree d.graph id) (at_cycle d rs is)

-- the registers after the clock's edge
abbrev pub registers_after : Parts → (registers inputs : List Value) → List Value
registers_after d rs is = map (value_in d rs is) d.next
