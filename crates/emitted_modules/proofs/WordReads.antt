-- Words that are read of memories.
use Rattle.std.proofs.Common.{◌≡◌, ℕ, ◌+◌, ◌-◌, ◌<◌, Bool, true, false, cond, ◌&&◌, ◌==◌, nat_le, nat_lt, length, Option, Some, None, refl, sym, ◌∙◌, ap, subst}
use Rattle.std.specs.Prelude.{⊤, slice_index, slice_set}
use Rattle.wb_values.specs.Value.{Sort, truth, word, memory, Value, truth_value, number, as_truth, as_number, as_words, Valuation}
use Rattle.wb_values.specs.Choice.{some_if}
use Rattle.model_meaning.specs.Term.{bits_sort, word_sort, same_word_sort, same_bits_sort, compared, concat_sort, extract_sort, extended_sort, load_sort}
use Rattle.verilog_trees.specs.Syntax.{Expression, comparison, equal, conditional}
use Rattle.verilog_meaning.specs.Expression.{Scope}
use Rattle.term_expressions.specs.Expressions.{IsWorth}
use Rattle.term_expressions.proofs.Tests.{equal_is_eq, conditional_is_ite}
use Rattle.emitted_modules.proofs.Words.{word_stored}
use Rattle.emitted_modules.proofs.Computed.{same_number, Worth, computed_if}

module _ (s : Scope) (v : Valuation) where
  -- An expression made of an address is worth the word there.
  abbrev pub ReadBy : (Expression → Expression) → Option Sort → Value → Type 0
  ReadBy f (Some (memory a d)) y = (e : Expression) (i : ℕ) → IsWorth s v e a i → IsWorth s v (f e) d (slice_index (as_words y) i)
  ReadBy f _ y = ⊤

  -- a load: the expression for its word is over the address e
  pub of_load : (e f : Expression) (a b : Option Sort) (y i : Value) → Worth s v e b i
      → ((k d n : ℕ) → a ≡ Some (memory k d) → b ≡ Some (word k) → IsWorth s v e k n → IsWorth s v f d (slice_index (as_words y) n))
      → Worth s v f (load_sort a b) (number (slice_index (as_words y) (as_number i)))
  of_load e f (Some (memory k d)) (Some (word w)) y i (n, same, at) read =
      computed_if s v (w == k) f (word d) (number (slice_index (as_words y) (as_number i)))
      (λ t. (
        slice_index (as_words y) n,
        ap (λ j. number (slice_index (as_words y) (as_number j))) same,
        read k d n refl (ap (λ j. Some (word j)) (sym (same_number w k t))) (subst (λ j. IsWorth s v e j n) (sym (same_number w k t)) at),
      ))
  of_load e f _ _ y i h read = tt

  -- the word at number j after a store: at its address its value, else what was there
  pub store_word : (e o p q f : Expression) (a d j : ℕ) (y i z : Value) → IsWorth s v e a j → Worth s v o (Some (memory a d)) y
      → Worth s v p (Some (word a)) i → Worth s v q (Some (word d)) z → IsWorth s v f d (slice_index (as_words y) j)
      → IsWorth s v (conditional (comparison equal e p) q f) d (slice_index (slice_set (as_words y) (as_number i) (as_number z)) j)
  store_word e o p q f a d j y i z there (ws, same, m) (n, alike, at) (x, equal_by, worth) inner =
      let low : n < length (as_words y) = subst (λ b. n < b) (sym (ap (λ t. length (as_words t)) same ∙ m.long)) at.fits in
      subst (IsWorth s v (conditional (comparison equal e p) q f) d)
      (sym
      (ap (λ t. slice_index (slice_set (as_words y) (as_number t) (as_number z)) j) alike
      ∙ (ap (λ t. slice_index (slice_set (as_words y) n (as_number t)) j) equal_by ∙ word_stored (as_words y) n x j low)))
      (conditional_is_ite s v (comparison equal e p) q f (j == n) d x (slice_index (as_words y) j) (equal_is_eq s v e p a j n there at) worth inner)

  choice_read : (p : Bool) (o y z : Value) (n : ℕ) → o ≡ truth_value p
      → cond p (slice_index (as_words y) n) (slice_index (as_words z) n) ≡ slice_index (as_words (cond (as_truth o) y z)) n
  choice_read true o y z n e = ap (λ t. slice_index (as_words (cond (as_truth t) y z)) n) (sym e)
  choice_read false o y z n e = ap (λ t. slice_index (as_words (cond (as_truth t) y z)) n) (sym e)

  -- the word of one of two memories
  pub choice_word : (c f g : Expression) (d j : ℕ) (o y z : Value) → Worth s v c (Some truth) o → IsWorth s v f d (slice_index (as_words y) j)
      → IsWorth s v g d (slice_index (as_words z) j) → IsWorth s v (conditional c f g) d (slice_index (as_words (cond (as_truth o) y z)) j)
  choice_word c f g d j o y z (p, is_p, h) first second =
      subst (IsWorth s v (conditional c f g) d) (choice_read p o y z j is_p)
      (conditional_is_ite s v c f g p d (slice_index (as_words y) j) (slice_index (as_words z) j) h first second)

-- ---- sorts that are no memory

abbrev pub IsNoMemory : Option Sort → Type 0
IsNoMemory (Some (memory a d)) = ⊥
IsNoMemory _ = ⊤

pub never_memory : (o : Option Sort) (a d : ℕ) → IsNoMemory o → o ≡ Some (memory a d) → ⊥
never_memory o a d h e = subst IsNoMemory e h

pub word_if : (b : Bool) (w : ℕ) → IsNoMemory (some_if b (word w))
word_if true w = tt
word_if false w = tt

pub of_bits : (a : Option Sort) → IsNoMemory (bits_sort a)
of_bits None = tt
of_bits (Some truth) = tt
of_bits (Some (word w)) = tt
of_bits (Some (memory i d)) = tt

pub of_word_sort : (a : Option Sort) → IsNoMemory (word_sort a)
of_word_sort None = tt
of_word_sort (Some truth) = tt
of_word_sort (Some (word w)) = tt
of_word_sort (Some (memory i d)) = tt

pub of_same_words : (a b : Option Sort) → IsNoMemory (same_word_sort a b)
of_same_words (Some (word w)) (Some (word u)) = word_if (w == u) w
of_same_words _ _ = tt

pub of_same_bits : (a b : Option Sort) → IsNoMemory (same_bits_sort a b)
of_same_bits (Some truth) (Some truth) = tt
of_same_bits (Some (word w)) (Some (word u)) = word_if (w == u) w
of_same_bits _ _ = tt

pub of_compared : (a : Option Sort) → IsNoMemory (compared a)
of_compared None = tt
of_compared (Some t) = tt

pub of_concat_sort : (a b : Option Sort) → IsNoMemory (concat_sort a b)
of_concat_sort (Some (word u)) (Some (word w)) = word_if (nat_le (u + w) 128) (u + w)
of_concat_sort _ _ = tt

pub of_extract_sort : (h l : ℕ) (a : Option Sort) → IsNoMemory (extract_sort h l a)
of_extract_sort h l (Some (word w)) = word_if (nat_le l h && nat_lt h w) (h + 1 - l)
of_extract_sort h l _ = tt

pub of_extended_sort : (n : ℕ) (a : Option Sort) → IsNoMemory (extended_sort n a)
of_extended_sort n (Some (word w)) = word_if (nat_le w n && nat_le n 128) n
of_extended_sort n _ = tt

pub of_load_sort : (a b : Option Sort) → IsNoMemory (load_sort a b)
of_load_sort (Some (memory k d)) (Some (word w)) = word_if (w == k) d
of_load_sort _ _ = tt
