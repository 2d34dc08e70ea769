-- What expressions compute: values of sorts, form by form.
use Rattle.std.proofs.Common.{◌≡◌, ℕ, Bool, true, false, cond, List, not, ◌&&◌, ◌||◌, ◌==◌, Option, Some, None, refl, ◌∙◌, ap, subst, arith}
use Rattle.std.specs.Prelude.{⊤}
use Rattle.std.proofs.lemmas.Bool.Decides.{nat_tests}
use Rattle.wb_values.specs.Value.{Sort, truth, word, memory, Value, truth_value, number, words, as_number, Valuation}
use Rattle.wb_values.specs.Choice.{some_if}
use Rattle.wb_values.specs.Number.{word_not, word_and, word_or, word_xor, word_eq}
use Rattle.model_meaning.specs.Term.{bits_sort, same_bits_sort, word_sort, same_word_sort, compared, width_of_sort, complement, conjunction, disjunction, exclusive_or, is_equal}
use Rattle.verilog_trees.specs.Syntax.{Expression, unary, binary, bitwise_and, bitwise_or, bitwise_xor, comparison, equal}
use Rattle.verilog_trees.specs.Syntax.{complement as complement_operator}
use Rattle.verilog_meaning.specs.Expression.{Scope, bit}
use Rattle.term_expressions.specs.Expressions.{IsWorth}
use Rattle.term_expressions.specs.Laws.{OfOne, OfTwo}
use Rattle.term_expressions.proofs.Forms.{complement_is_not, bitwise_and_is_and, bitwise_or_is_or, bitwise_xor_is_xor}
use Rattle.term_expressions.proofs.Tests.{equal_is_eq}
use Rattle.emitted_modules.proofs.Words.{IsMemoryOf}

-- A value of the sort, of which an expression is worth the number; of a memory its words alone. (Nothing is said where there is no sort.)
abbrev pub IsComputed : ((w x : ℕ) → Type 0) → Option Sort → Value → Type 0
IsComputed Is (Some truth) y = (b : Bool) × (y ≡ truth_value b) × Is 1 (bit b)
IsComputed Is (Some (word w)) y = (x : ℕ) × (y ≡ number x) × Is w x
IsComputed Is (Some (memory a d)) y = (ws : List ℕ) × (y ≡ words ws) × IsMemoryOf a d ws
IsComputed Is None y = ⊤

pub same_number : (u w : ℕ) → (u == w) ≡ true → w ≡ u
same_number u w e = grind (arith, nat_tests, e)

module _ (s : Scope) (v : Valuation) where
  abbrev pub Worth : Expression → Option Sort → Value → Type 0
  Worth e t y = IsComputed (λ w x. IsWorth s v e w x) t y

  pub computed_if : (b : Bool) (e : Expression) (t : Sort) (y : Value) → (b ≡ true → Worth e (Some t) y) → Worth e (some_if b t) y
  computed_if true e t y h = h refl
  computed_if false e t y h = tt

  -- ---- words alone

  -- an operation on one word
  pub of_word : (op : Expression → Expression) (f : (w x : ℕ) → ℕ) → OfOne (λ s_ v_ e w x. IsWorth s_ v_ (op e) w (f w x))
      → (e : Expression) (a : Option Sort) (y : Value) → Worth e a y → Worth (op e) (word_sort a) (number (f (width_of_sort a) (as_number y)))
  of_word op f law e None y h = tt
  of_word op f law e (Some truth) y h = tt
  of_word op f law e (Some (memory i d)) y h = tt
  of_word op f law e (Some (word w)) y (x, same, h) = (f w x, ap (λ z. number (f w (as_number z))) same, law s v e w x h)

  -- an operation on two words of one width
  pub of_words : (op : Expression → Expression → Expression) (f : (w x y : ℕ) → ℕ) → OfTwo (λ s_ v_ d e w x y. IsWorth s_ v_ (op d e) w (f w x y))
      → (d e : Expression) (a b : Option Sort) (y z : Value) → Worth d a y → Worth e b z
      → Worth (op d e) (same_word_sort a b) (number (f (width_of_sort a) (as_number y) (as_number z)))
  of_words op f law d e (Some (word w)) (Some (word u)) y z (x, same, h) (k, alike, g) =
      computed_if (w == u) (op d e) (word w) (number (f w (as_number y) (as_number z)))
      (λ t. (
        f w x k,
        ap (λ j. number (f w (as_number j) (as_number z))) same ∙ ap (λ j. number (f w x (as_number j))) alike,
        law s v d e w x k h (subst (λ j. IsWorth s v e j k) (same_number w u t) g),
      ))
  of_words op f law d e _ _ y z h g = tt

  test_if : (t : Bool) (e : Expression) (w : ℕ) (y : Value) → (t ≡ true → Worth e (Some truth) y) → Worth e (compared (some_if t (word w))) y
  test_if true e w y h = h refl
  test_if false e w y h = tt

  -- a test of two words of one width
  pub of_test : (op : Expression → Expression → Expression) (f : (w x y : ℕ) → Bool) → OfTwo (λ s_ v_ d e w x y. IsWorth s_ v_ (op d e) 1 (bit (f w x y)))
      → (d e : Expression) (a b : Option Sort) (y z : Value) → Worth d a y → Worth e b z
      → Worth (op d e) (compared (same_word_sort a b)) (truth_value (f (width_of_sort a) (as_number y) (as_number z)))
  of_test op f law d e (Some (word w)) (Some (word u)) y z (x, same, h) (k, alike, g) =
      test_if (w == u) (op d e) w (truth_value (f w (as_number y) (as_number z)))
      (λ t. (
        f w x k,
        ap (λ j. truth_value (f w (as_number j) (as_number z))) same ∙ ap (λ j. truth_value (f w x (as_number j))) alike,
        law s v d e w x k h (subst (λ j. IsWorth s v e j k) (same_number w u t) g),
      ))
  of_test op f law d e _ _ y z h g = tt

  -- ---- truth values as well

  not_bit : (b : Bool) → word_not 1 (bit b) ≡ bit (not b)
  not_bit true = refl
  not_bit false = refl

  pub of_complement : (e : Expression) (a : Option Sort) (y : Value) → Worth e a y
      → Worth (unary complement_operator e) (bits_sort a) (complement (width_of_sort a) y)
  of_complement e None y h = tt
  of_complement e (Some (memory i d)) y h = tt
  of_complement e (Some truth) y (b, same, h) =
      (not b, ap (complement 0) same, subst (IsWorth s v (unary complement_operator e) 1) (not_bit b) (complement_is_not s v e 1 (bit b) h))
  of_complement e (Some (word w)) y (x, same, h) = (word_not w x, ap (complement w) same, complement_is_not s v e w x h)

  -- a connective: of truth values, and of words bit by bit
  pub of_connective : (op : Expression → Expression → Expression) (f : (x y : ℕ) → ℕ) (t : Bool → Bool → Bool) (both : Value → Value → Value)
      → OfTwo (λ s_ v_ d e w x y. IsWorth s_ v_ (op d e) w (f x y)) → ((b c : Bool) → f (bit b) (bit c) ≡ bit (t b c))
      → ((b c : Bool) → both (truth_value b) (truth_value c) ≡ truth_value (t b c)) → ((x y : ℕ) → both (number x) (number y) ≡ number (f x y))
      → (d e : Expression) (a b : Option Sort) (y z : Value) → Worth d a y → Worth e b z → Worth (op d e) (same_bits_sort a b) (both y z)
  of_connective op f t both law bits truths numbers d e (Some truth) (Some truth) y z (b, same, h) (c, alike, g) = (
    t b c,
    ap (λ j. both j z) same ∙ (ap (λ j. both (truth_value b) j) alike ∙ truths b c),
    subst (IsWorth s v (op d e) 1) (bits b c) (law s v d e 1 (bit b) (bit c) h g),
  )
  of_connective op f t both law bits truths numbers d e (Some (word w)) (Some (word u)) y z (x, same, h) (k, alike, g) =
      computed_if (w == u) (op d e) (word w) (both y z)
      (λ q. (
        f x k,
        ap (λ j. both j z) same ∙ (ap (λ j. both (number x) j) alike ∙ numbers x k),
        law s v d e w x k h (subst (λ j. IsWorth s v e j k) (same_number w u q) g),
      ))
  of_connective op f t both law bits truths numbers d e _ _ y z h g = tt

  and_bits : (b c : Bool) → word_and (bit b) (bit c) ≡ bit (b && c)
  and_bits true true = refl
  and_bits true false = refl
  and_bits false true = refl
  and_bits false false = refl

  or_bits : (b c : Bool) → word_or (bit b) (bit c) ≡ bit (b || c)
  or_bits true true = refl
  or_bits true false = refl
  or_bits false true = refl
  or_bits false false = refl

  xor_bits : (b c : Bool) → word_xor (bit b) (bit c) ≡ bit (cond b (not c) c)
  xor_bits true true = refl
  xor_bits true false = refl
  xor_bits false true = refl
  xor_bits false false = refl

  pub of_and : (d e : Expression) (a b : Option Sort) (y z : Value) → Worth d a y → Worth e b z
      → Worth (binary bitwise_and d e) (same_bits_sort a b) (conjunction y z)
  of_and = of_connective (binary bitwise_and) word_and (λ b c. b && c) conjunction bitwise_and_is_and and_bits (λ b c. refl) (λ x y. refl)

  pub of_or : (d e : Expression) (a b : Option Sort) (y z : Value) → Worth d a y → Worth e b z
      → Worth (binary bitwise_or d e) (same_bits_sort a b) (disjunction y z)
  of_or = of_connective (binary bitwise_or) word_or (λ b c. b || c) disjunction bitwise_or_is_or or_bits (λ b c. refl) (λ x y. refl)

  pub of_xor : (d e : Expression) (a b : Option Sort) (y z : Value) → Worth d a y → Worth e b z
      → Worth (binary bitwise_xor d e) (same_bits_sort a b) (exclusive_or y z)
  of_xor = of_connective (binary bitwise_xor) word_xor (λ b c. cond b (not c) c) exclusive_or bitwise_xor_is_xor xor_bits (λ b c. refl) (λ x y. refl)

  eq_bits : (b c : Bool) → word_eq (bit b) (bit c) ≡ cond b c (not c)
  eq_bits true true = refl
  eq_bits true false = refl
  eq_bits false true = refl
  eq_bits false false = refl

  pub of_eq : (d e : Expression) (a b : Option Sort) (y z : Value) → Worth d a y → Worth e b z
      → Worth (comparison equal d e) (compared (same_bits_sort a b)) (truth_value (is_equal y z))
  of_eq d e (Some truth) (Some truth) y z (b, same, h) (c, alike, g) = (
    cond b c (not c),
    ap (λ j. truth_value (is_equal j z)) same ∙ ap (λ j. truth_value (is_equal (truth_value b) j)) alike,
    subst (λ j. IsWorth s v (comparison equal d e) 1 (bit j)) (eq_bits b c) (equal_is_eq s v d e 1 (bit b) (bit c) h g),
  )
  of_eq d e (Some (word w)) (Some (word u)) y z (x, same, h) (k, alike, g) =
      test_if (w == u) (comparison equal d e) w (truth_value (is_equal y z))
      (λ t. (
        word_eq x k,
        ap (λ j. truth_value (is_equal j z)) same ∙ ap (λ j. truth_value (is_equal (number x) j)) alike,
        equal_is_eq s v d e w x k h (subst (λ j. IsWorth s v e j k) (same_number w u t) g),
      ))
  of_eq d e _ _ y z h g = tt
