-- Terms that are worth what a word, or a word of a memory, holds after a number was written to some of its bits.
use Rattle.std.specs.Prelude.{◌≡◌, ℕ, ◌<◌, ◌%◌, ◌^◌, Bool, cond, List, Option, slice_index}
use Rattle.wb_values.specs.Value.{Sort, word, words, Valuation}
use Rattle.model_meaning.specs.Term.{val}
use Rattle.verilog_meaning.specs.Expression.{Object, object_width}
use Rattle.verilog_meaning.specs.Statement.{with_bits}
use Rattle.wb_terms.specs.Graph.{Graph, tree}
use Rattle.v_operators.specs.Meaning.{IsOfSort, HasNumber}
use Rattle.v_lower.specs.Lowered.{IsSortOf}
use Rattle.v_write.specs.declared.part.PartBits.{PartBits}
use Rattle.wb_terms.specs.declared.nodes.TermId.{TermId}
use Rattle.v_write.specs.Guard.{Guards}
use Rattle.v_write.specs.Parts.{bits_meant, HaveIndex}

-- The term of the second store is a word of w bits: that of the first with n bits replaced.
pub record ChangesWord (o : Object) (g h : Graph) (q : PartBits) (old number n id w : ℕ) : Type 0 where
  pub of_sort : IsOfSort h id (word w)
  pub value : (p : Valuation) (a x : ℕ) → HaveIndex g p q → HasNumber g old w p a → HasNumber g number n p x → HasNumber h id w p (with_bits w a (bits_meant o g p q) x)

-- The term of the second store is the word of a memory at a place of 64 bits, cut to an address.
pub record Reads (g h : Graph) (m place id a d : ℕ) : Type 0 where
  pub of_sort : IsOfSort h id (word d)
  pub value : (p : Valuation) (xs : List ℕ) (b : ℕ) → val (tree g m) p ≡ words xs → ((k : ℕ) → slice_index xs k < 2 ^ d) → HasNumber g place 64 p b
      → HasNumber h id d p (slice_index xs (b % 2 ^ a))

-- The term of the last store is that word with n bits replaced. The memory and the number stand in the first store, the place in the
-- second.
pub record ChangesMemory (o : Object) (g k l : Graph) (q : PartBits) (old place number n id a d : ℕ) : Type 0 where
  pub of_sort : IsOfSort l id (word d)
  pub value : (p : Valuation) (xs : List ℕ) (b x : ℕ) → HaveIndex g p q → val (tree g old) p ≡ words xs → ((j : ℕ) → slice_index xs j < 2 ^ object_width o)
      → HasNumber k place 64 p b → HasNumber g number n p x → HasNumber l id d p (with_bits (object_width o) (slice_index xs (b % 2 ^ a)) (bits_meant o g p q) x)

-- The term is one of the object's sort.
pub record IsTermOf (o : Object) (g : Graph) (id : ℕ) : Type 0 where
  pub sort : Sort
  pub of_name : IsSortOf o sort
  pub of_sort : IsOfSort g id sort

-- Two terms have one sort.
abbrev pub AreOfOneSort : Graph → ℕ → ℕ → Type 0
AreOfOneSort g x y = (t : Sort) × IsOfSort g x t × IsOfSort g y t

-- The term of the second store is worth the first of two terms where the condition holds, and else the second; they have one sort.
pub record IsChoice (g h : Graph) (guard : Option TermId) (x y id : ℕ) : Type 0 where
  pub of_sort : (t : Sort) → IsOfSort g x t → IsOfSort g y t → IsOfSort h id t
  pub value : (p : Valuation) (b : Bool) → Guards g p guard b → val (tree h id) p ≡ cond b (val (tree g x) p) (val (tree g y) p)
