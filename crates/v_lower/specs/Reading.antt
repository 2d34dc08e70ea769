-- When a term is worth what is read of a name: the whole of it, a word of a memory, or some bits.
use Rattle.std.specs.Prelude.{◌≡◌, ℕ, ◌%◌, ◌^◌, ◌<◌, cond, nat_lt, List, slice_index}
use Rattle.wb_values.specs.Value.{Name, word, words, Valuation}
use Rattle.model_meaning.specs.Term.{val}
use Rattle.verilog_trees.specs.Syntax.{Select, Selects}
use Rattle.verilog_meaning.specs.Expression.{Object, Scope, object_width, no_values, selects_width, selected, indexed_word, select_index, select_bits, bits_taken}
use Rattle.wb_terms.specs.Graph.{Graph, tree}
use Rattle.v_operators.specs.Meaning.{IsOfSort, HasNumber}
use Rattle.v_lower.specs.Lowered.{Images, StandsFor}

-- a name with selects
pub record IsRead (s : Scope) (images : Images) (g : Graph) (n : Name) (x : Selects) (w id : ℕ) : Type 0 where
  pub width : w ≡ selects_width s (s n) x
  pub of_sort : IsOfSort g id (word w)
  pub value : (p v : Valuation) → StandsFor s images g p v → HasNumber g id w p (selected s v (s n) (v n) x)

-- a word of a memory
pub record IsWordRead (s : Scope) (images : Images) (g : Graph) (n : Name) (x : Select) (w id : ℕ) : Type 0 where
  pub width : w ≡ object_width (s n)
  pub of_sort : IsOfSort g id (word w)
  pub value : (p v : Valuation) → StandsFor s images g p v → HasNumber g id w p (indexed_word (s n) (select_index s v x) (v n))

-- Bits of a number of w bits: those that a select takes of an object.
pub record TakesBits (s : Scope) (images : Images) (g h : Graph) (o : Object) (x : Select) (a w n id : ℕ) : Type 0 where
  pub count : n ≡ (select_bits s no_values o x).count
  pub of_sort : IsOfSort h id (word n)
  pub value : (p v : Valuation) (y : ℕ) → StandsFor s images h p v → HasNumber g a w p y → HasNumber h id n p (bits_taken y (select_bits s v o x))

-- The term of the second store is a word of d bits. It is made of the words of a memory of the first, and of a place of 64 bits.
pub record Loads (g h : Graph) (m place id d : ℕ) (f : List ℕ → ℕ → ℕ) : Type 0 where
  pub of_sort : IsOfSort h id (word d)
  pub value : (p : Valuation) (xs : List ℕ) (b : ℕ) → val (tree g m) p ≡ words xs → ((k : ℕ) → slice_index xs k < 2 ^ d) → HasNumber g place 64 p b → HasNumber h id d p (f xs b)

-- the word of 2^a words at a place, 0 past their end
abbrev pub loaded : ℕ → List ℕ → ℕ → ℕ
loaded a xs b = cond (nat_lt b (2 ^ a)) (slice_index xs (b % 2 ^ a)) 0
