-- Terms that are worth a number with some of its bits replaced.
use Rattle.std.specs.Prelude.{◌≡◌, ℕ, Bool, cond, nat_lt, List, slice_set, pos, ◌-ℤ◌}
use Rattle.wb_values.specs.Value.{word, memory, words, Valuation}
use Rattle.wb_values.specs.Number.{word_and, word_or, word_not}
use Rattle.model_meaning.specs.Term.{val}
use Rattle.verilog_meaning.specs.Expression.{Object, place_of_bit, integer_from}
use Rattle.verilog_meaning.specs.Statement.{with_bits_at}
use Rattle.wb_terms.specs.Graph.{Graph, tree}
use Rattle.v_operators.specs.Meaning.{IsOfSort, HasNumber}

-- The term of the second store is a word of w bits. Its number is made of those of three terms of the first, of u, v and n bits.
pub record Unites (g h : Graph) (x u y v i n id w : ℕ) (f : ℕ → ℕ → ℕ → ℕ) : Type 0 where
  pub of_sort : IsOfSort h id (word w)
  pub value : (p : Valuation) (a b c : ℕ) → HasNumber g x u p a → HasNumber g y v p b → HasNumber g i n p c → HasNumber h id w p (f a b c)

-- a number of w bits without those under a mask, and others in their place
abbrev pub merged : ℕ → ℕ → ℕ → ℕ → ℕ
merged w a m x = word_or (word_and a (word_not w m)) x

-- A number of w bits with so many of an object's bits replaced, the lowest of them so many places below that with the index of u bits.
abbrev pub written_from : Object → (back count : ℕ) → (signed : Bool) → (u w a x i : ℕ) → ℕ
written_from o back n signed u w a x i = with_bits_at w a (place_of_bit o (integer_from signed u i) -ℤ pos back) n x

-- words with the one at a place replaced, where there are so many
abbrev pub stored : (count : ℕ) → List ℕ → ℕ → ℕ → List ℕ
stored n xs b x = cond (nat_lt b n) (slice_set xs b x) xs

-- The term of the second store is a memory. Its words are made of those of a memory of the first, of a place of 64 bits and of a word.
pub record Stores (g h : Graph) (m place x id a d : ℕ) (f : List ℕ → ℕ → ℕ → List ℕ) : Type 0 where
  pub of_sort : IsOfSort h id (memory a d)
  pub value : (p : Valuation) (xs : List ℕ) (b c : ℕ) → val (tree g m) p ≡ words xs → HasNumber g place 64 p b → HasNumber g x d p c
      → val (tree h id) p ≡ words (f xs b c)
