-- What expressions compute: parts, widths, choices, and what wires take.
use Rattle.std.proofs.Common.{◌≡◌, ℕ, ◌+◌, ◌-◌, ◌<◌, ◌≤◌, ◌^◌, Bool, true, false, cond, ◌&&◌, ◌==◌, nat_le, nat_lt, List, Option, Some, None, refl, sym, ◌∙◌, ap, subst, arith}
use Rattle.std.specs.Prelude.{⊤, slice_set}
use Rattle.std.proofs.lemmas.Bool.{and_parts}
use Rattle.std.proofs.lemmas.Bool.Decides.{nat_tests}
use Rattle.wb_values.specs.Value.{Sort, truth, word, memory, Value, truth_value, number, words, as_truth, as_number, as_words, Valuation}
use Rattle.wb_values.specs.Choice.{some_if}
use Rattle.wb_values.specs.Number.{word_concat, word_extract, word_zext, word_sext}
use Rattle.model_meaning.specs.Term.{is_width, concat_sort, extract_sort, extended_sort, ite_sort, store_sort, width_of_sort}
use Rattle.verilog_trees.specs.Syntax.{Expression, conditional, as_signed}
use Rattle.verilog_meaning.specs.Expression.{Scope, bit}
use Rattle.v_operators.proofs.Bounds.{sext_below}
use Rattle.term_expressions.specs.Expressions.{IsWorth, IsAssigned, sized, pair_of, filled}
use Rattle.term_expressions.proofs.Shifts.{standing_is_assigned, signed_is_sext}
use Rattle.term_expressions.proofs.Tests.{conditional_is_ite}
use Rattle.term_expressions.proofs.Joined.{sized_is_const, parts_are_concat, filled_is_zext}
use Rattle.emitted_modules.specs.Nodes.{filled_to}
use Rattle.emitted_modules.proofs.Words.{IsMemoryOf, memory_stored}
use Rattle.emitted_modules.proofs.Computed.{IsComputed, same_number, Worth, computed_if}

in_range : (h l w : ℕ) → (nat_le l h && nat_lt h w) ≡ true → (l ≤ h) × (h < w)
in_range h l w e = (grind (arith, nat_tests, e), grind (arith, nat_tests, e))

at_least : (w n : ℕ) → (nat_le w n && nat_le n 128) ≡ true → w ≤ n
at_least w n e = grind (arith, nat_tests, e)

less_by_test : (w n : ℕ) → nat_lt w n ≡ true → w < n
less_by_test w n e = grind (arith, nat_tests, e)

same_by_test : (w n : ℕ) → w ≤ n → nat_lt w n ≡ false → w ≡ n
same_by_test w n le e = grind (arith, nat_tests, le, e)

module _ (s : Scope) (v : Valuation) where
  -- what a wire takes to which the expression is assigned
  abbrev pub Given : Expression → Option Sort → Value → Type 0
  Given e t y = IsComputed (λ w x. IsAssigned s v e w x × (x < 2 ^ w)) t y

  given_if : (b : Bool) (e : Expression) (t : Sort) (y : Value) → (b ≡ true → Given e (Some t) y) → Given e (some_if b t) y
  given_if true e t y h = h refl
  given_if false e t y h = tt

  pub given_of : (e : Expression) (t : Option Sort) (y : Value) → Worth s v e t y → Given e t y
  given_of e None y h = tt
  given_of e (Some truth) y (b, same, h) = (b, same, (standing_is_assigned s v e 1 (bit b) h, h.fits))
  given_of e (Some (word w)) y (x, same, h) = (x, same, (standing_is_assigned s v e w x h, h.fits))
  given_of e (Some (memory a d)) y h = h

  pub of_concat : (d e : Expression) (a b : Option Sort) (y z : Value) → Worth s v d a y → Worth s v e b z
      → Worth s v (pair_of d e) (concat_sort a b) (number (word_concat (width_of_sort b) (as_number y) (as_number z)))
  of_concat d e (Some (word u)) (Some (word w)) y z (x, same, h) (k, alike, g) =
      computed_if s v (nat_le (u + w) 128) (pair_of d e) (word (u + w)) (number (word_concat w (as_number y) (as_number z)))
      (λ t. (
        word_concat w x k,
        ap (λ j. number (word_concat w (as_number j) (as_number z))) same ∙ ap (λ j. number (word_concat w x (as_number j))) alike,
        parts_are_concat s v d e u w x k h g,
      ))
  of_concat d e _ _ y z h g = tt

  -- each part of a word is what its bits are
  abbrev pub SlicedBy : (ℕ → ℕ → Expression) → Option Sort → Value → Type 0
  SlicedBy f (Some (word w)) y =
      (x : ℕ) × (y ≡ number x) × ((h l : ℕ) → l ≤ h → h < w → IsWorth s v (f h l) (h + 1 - l) (word_extract h l x))
  SlicedBy f _ y = ⊤

  pub of_extract : (f : ℕ → ℕ → Expression) (h l : ℕ) (a : Option Sort) (y : Value) → SlicedBy f a y
      → Worth s v (f h l) (extract_sort h l a) (number (word_extract h l (as_number y)))
  of_extract f h l (Some (word w)) y (x, same, sliced) =
      computed_if s v (nat_le l h && nat_lt h w) (f h l) (word (h + 1 - l)) (number (word_extract h l (as_number y)))
      (λ t. (
        word_extract h l x,
        ap (λ j. number (word_extract h l (as_number j))) same,
        sliced h l (in_range h l w t).0 (in_range h l w t).1,
      ))
  of_extract f h l None y g = tt
  of_extract f h l (Some truth) y g = tt
  of_extract f h l (Some (memory i d)) y g = tt

  filled_worth : (n w : ℕ) (e : Expression) (x : ℕ) → w ≤ n → IsWorth s v e w x → IsWorth s v (filled_to n w e) n x
  filled_worth n w e x le h = by_test (nat_lt w n) refl
    where
      by_test : (b : Bool) → nat_lt w n ≡ b → IsWorth s v (cond b (filled n w e) e) n x
      by_test true t = filled_is_zext s v e w n x (less_by_test w n t) h
      by_test false t = subst (λ u. IsWorth s v e u x) (same_by_test w n le t) h

  pub of_zext : (n : ℕ) (e : Expression) (a : Option Sort) (y : Value) → Worth s v e a y
      → Worth s v (filled_to n (width_of_sort a) e) (extended_sort n a) (number (word_zext (as_number y)))
  of_zext n e (Some (word w)) y (x, same, h) =
      computed_if s v (nat_le w n && nat_le n 128) (filled_to n w e) (word n) (number (word_zext (as_number y)))
      (λ t. (x, ap (λ j. number (as_number j)) same, filled_worth n w e x (at_least w n t) h))
  of_zext n e None y g = tt
  of_zext n e (Some truth) y g = tt
  of_zext n e (Some (memory i d)) y g = tt

  pub of_sext : (n : ℕ) (e : Expression) (a : Option Sort) (y : Value) → Worth s v e a y
      → Given (as_signed e) (extended_sort n a) (number (word_sext n (width_of_sort a) (as_number y)))
  of_sext n e (Some (word w)) y (x, same, h) =
      given_if (nat_le w n && nat_le n 128) (as_signed e) (word n) (number (word_sext n w (as_number y)))
      (λ t. (
        word_sext n w x,
        ap (λ j. number (word_sext n w (as_number j))) same,
        (signed_is_sext s v e w n x (at_least w n t) h, sext_below n w x (at_least w n t) h.fits),
      ))
  of_sext n e None y g = tt
  of_sext n e (Some truth) y g = tt
  of_sext n e (Some (memory i d)) y g = tt

  bit_of_choice : (p b c : Bool) → cond p (bit b) (bit c) ≡ bit (cond p b c)
  bit_of_choice true b c = refl
  bit_of_choice false b c = refl

  truth_of_choice : (p b c : Bool) → cond p (truth_value b) (truth_value c) ≡ truth_value (cond p b c)
  truth_of_choice true b c = refl
  truth_of_choice false b c = refl

  number_of_choice : (p : Bool) (x k : ℕ) → cond p (number x) (number k) ≡ number (cond p x k)
  number_of_choice true x k = refl
  number_of_choice false x k = refl

  words_of_choice : (p : Bool) (q r : List ℕ) → cond p (words q) (words r) ≡ words (cond p q r)
  words_of_choice true q r = refl
  words_of_choice false q r = refl

  chosen_value : (o y z o2 y2 z2 : Value) → o ≡ o2 → y ≡ y2 → z ≡ z2 → cond (as_truth o) y z ≡ cond (as_truth o2) y2 z2
  chosen_value o y z o2 y2 z2 e f g =
      ap (λ j. cond (as_truth j) y z) e ∙ (ap (λ j. cond (as_truth o2) j z) f ∙ ap (λ j. cond (as_truth o2) y2 j) g)

  pub of_ite : (c d e : Expression) (i a b : Option Sort) (o y z : Value) → Worth s v c i o → Worth s v d a y → Worth s v e b z
      → Worth s v (conditional c d e) (ite_sort i a b) (cond (as_truth o) y z)
  of_ite c d e (Some truth) (Some truth) (Some truth) o y z (p, true_by, h) (q, same, g) (r, alike, k) = (
    cond p q r,
    chosen_value o y z (truth_value p) (truth_value q) (truth_value r) true_by same alike ∙ truth_of_choice p q r,
    subst (IsWorth s v (conditional c d e) 1) (bit_of_choice p q r) (conditional_is_ite s v c d e p 1 (bit q) (bit r) h g k),
  )
  of_ite c d e (Some truth) (Some (word w)) (Some (word u)) o y z (p, true_by, h) (q, same, g) (r, alike, k) =
      computed_if s v (w == u) (conditional c d e) (word w) (cond (as_truth o) y z)
      (λ t. (
        cond p q r,
        chosen_value o y z (truth_value p) (number q) (number r) true_by same alike ∙ number_of_choice p q r,
        conditional_is_ite s v c d e p w q r h g (subst (λ j. IsWorth s v e j r) (same_number w u t) k),
      ))
  of_ite c d e (Some truth) (Some (memory i j)) (Some (memory k l)) o y z (p, true_by, h) (q, same, g) (r, alike, f) = by_test ((i == k) && (j == l)) refl
    where
      chosen_words : (b : Bool) → IsMemoryOf i j q → IsMemoryOf i j r → IsMemoryOf i j (cond b q r)
      chosen_words true m n = m
      chosen_words false m n = n

      by_test : (b : Bool) → ((i == k) && (j == l)) ≡ b → Worth s v (conditional c d e) (some_if b (memory i j)) (cond (as_truth o) y z)
      by_test false t = tt
      by_test true t =
          let parts = and_parts (i == k) (j == l) t in (
            cond p q r,
            chosen_value o y z (truth_value p) (words q) (words r) true_by same alike ∙ words_of_choice p q r,
            chosen_words p g (subst (λ n. IsMemoryOf n j r) (same_number i k parts.0) (subst (λ n. IsMemoryOf k n r) (same_number j l parts.1) f)),
          )
  of_ite c d e _ _ _ o y z h g k = tt

  -- the address of a store is one of the memory's, so there is no need to look at it but in range
  pub of_store : (d e f o : Expression) (a b c : Option Sort) (y i z : Value) → Worth s v d a y → Worth s v e b i → Worth s v f c z
      → Worth s v o (store_sort a b c) (words (slice_set (as_words y) (as_number i) (as_number z)))
  of_store d e f o (Some (memory k l)) (Some (word w)) (Some (word u)) y i z (ws, same, g) (n, alike, at) (x, equal_by, worth) =
      by_test ((w == k) && (u == l)) refl
    where
      by_test : (b : Bool) → ((w == k) && (u == l)) ≡ b
          → Worth s v o (some_if b (memory k l)) (words (slice_set (as_words y) (as_number i) (as_number z)))
      by_test false t = tt
      by_test true t =
          let parts = and_parts (w == k) (u == l) t in (
            slice_set ws n x,
            ap (λ j. words (slice_set (as_words j) (as_number i) (as_number z))) same
                ∙ (ap (λ j. words (slice_set ws (as_number j) (as_number z))) alike ∙ ap (λ j. words (slice_set ws n (as_number j))) equal_by),
            memory_stored k l ws n x g (subst (λ j. n < 2 ^ j) (sym (same_number w k parts.0)) at.fits)
                (subst (λ j. x < 2 ^ j) (sym (same_number u l parts.1)) worth.fits),
          )
  of_store d e f o _ _ _ y i z g h k = tt

  -- ---- constants

  pub of_truth : (b : Bool) → Worth s v (sized 1 (bit b)) (Some truth) (truth_value b)
  of_truth b = (b, refl, sized_is_const s v 1 (bit b) (below_two b))
    where
      below_two : (c : Bool) → bit c < 2
      below_two true = omega arith
      below_two false = omega arith

  fits_by_test : (w x p : ℕ) → (is_width w && nat_lt x p) ≡ true → x < p
  fits_by_test w x p e = grind (arith, nat_tests, e)

  pub of_const : (w x : ℕ) → Worth s v (sized w x) (some_if (is_width w && nat_lt x (2 ^ w)) (word w)) (number x)
  of_const w x =
      computed_if s v (is_width w && nat_lt x (2 ^ w)) (sized w x) (word w) (number x)
      (λ t. (x, refl, sized_is_const s v w x (fits_by_test w x (2 ^ w) t)))
