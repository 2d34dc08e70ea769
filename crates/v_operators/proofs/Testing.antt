-- Truth values over terms of a store, and choices by them.
use Rattle.std.proofs.Common.{◌≡◌, ℕ, ◌<◌, ◌≤◌, ◌^◌, Bool, true, false, cond, ◌&&◌, ◌||◌, length, Some, refl, sym, ap, ◌∙◌, subst, arith, eq-eqb}
use Rattle.std.specs.Prelude.{◌==◌, int_lt, int_le}
use Rattle.std.proofs.Math.Pow.{pow_pos}
use Rattle.std.proofs.lemmas.Bool.Decides.{nat_tests}
use Rattle.wb_values.specs.Value.{truth, word, Value, truth_value, number, Valuation, as_truth, as_number}
use Rattle.wb_values.specs.Number.{word_ult, word_ule, word_slt, word_sle}
use Rattle.wb_values.specs.Choice.{some_if}
use Rattle.model_meaning.specs.Term.{Term, and, or, eq, ult, ule, slt, sle, ite, is_width, same_bits_sort, same_word_sort, compared, ite_sort, sort_of, width_of_sort, term_width, conjunction, disjunction, is_equal, val}
use Rattle.verilog_meaning.specs.Expression.{is_nonzero, bit, integer_from}
use Rattle.wb_terms.specs.Graph.{Graph, tree}
use Rattle.wb_terms.proofs.InRange.{is_sort-sort_of}
use Rattle.v_operators.specs.Meaning.{Grows, IsOfSort, HasNumber, Tests, Compares, Counts, Connects, Chooses}
use Rattle.v_operators.proofs.Growing.{Grows-trans, IsOfSort-kept, number_kept, truth_kept}
use Rattle.v_operators.proofs.Forms.{formed, two_alike, same_word, same_bits}
use Rattle.v_operators.proofs.Bounds.{bit_below}

-- a word has 1 to 128 bits
in_range : (g : Graph) (id w : ℕ) → IsOfSort g id (word w) → is_width w ≡ true
in_range g id w o = is_sort-sort_of (tree g id) (word w) o.sort

pub some_bits : (g : Graph) (id w : ℕ) → IsOfSort g id (word w) → 1 ≤ w
some_bits g id w o = bound w (in_range g id w o) where
  bound : (w : ℕ) → is_width w ≡ true → 1 ≤ w
  bound w h = grind (arith, nat_tests)

pub at_most_128 : (g : Graph) (id w : ℕ) → IsOfSort g id (word w) → w ≤ 128
at_most_128 g id w o = bound w (in_range g id w o) where
  bound : (w : ℕ) → is_width w ≡ true → w ≤ 128
  bound w h = grind (arith, nat_tests)

-- ---- comparisons

abbrev IsShape : (Term → Term → Term) → (ℕ → ℕ → Bool) → ℕ → Type 0
IsShape T f w = (s t : Term) (p : Valuation) (a b : ℕ) → sort_of s ≡ Some (word w) → a < 2 ^ w → b < 2 ^ w → val s p ≡ number a → val t p ≡ number b → val (T s t) p ≡ truth_value (f a b)

compares : (T : Term → Term → Term) (f : ℕ → ℕ → Bool) (g h : Graph) (id x y w : ℕ) → IsShape T f w → sort_of (T (tree g x) (tree g y)) ≡ Some truth → IsOfSort g x (word w)
    → id < length h.nodes → tree h id ≡ T (tree g x) (tree g y) → Compares g h x y w id f
compares T f g h id x y w shape sort o below e =
    record {
      of_sort = formed h id (T (tree g x) (tree g y)) truth below e sort;
      value = λ p a b m n. record { value = ap (λ t. val t p) e ∙ shape (tree g x) (tree g y) p a b o.sort m.fits n.fits m.value n.value };
    }

compared_words : (g : Graph) (x y w : ℕ) → IsOfSort g x (word w) → IsOfSort g y (word w) → compared (same_word_sort (sort_of (tree g x)) (sort_of (tree g y))) ≡ Some truth
compared_words g x y w o q = ap compared (same_word g x y w o q)

compared_bits : (g : Graph) (x y w : ℕ) → IsOfSort g x (word w) → IsOfSort g y (word w) → compared (same_bits_sort (sort_of (tree g x)) (sort_of (tree g y))) ≡ Some truth
compared_bits g x y w o q = ap compared (same_bits g x y w o q)

by_width : (f : ℕ → ℕ → ℕ → Bool) (w a b : ℕ) (s : Term) (c d : Value) → sort_of s ≡ Some (word w) → c ≡ number a → d ≡ number b → truth_value (f (term_width s) (as_number c) (as_number d)) ≡ truth_value (f w a b)
by_width f w a b s c d i j k =
    ap (λ o. truth_value (f (width_of_sort o) (as_number c) (as_number d))) i ∙ (ap (λ x. truth_value (f w (as_number x) (as_number d))) j ∙ ap (λ x. truth_value (f w a (as_number x))) k)

module _ (g h : Graph) (id x y w : ℕ) (o : IsOfSort g x (word w)) (q : IsOfSort g y (word w)) (l : id < length h.nodes) where
  ult_made : tree h id ≡ ult (tree g x) (tree g y) → Compares g h x y w id word_ult
  ult_made e = compares ult word_ult g h id x y w (λ s t p a b i u v j k. by_width (λ _. word_ult) w a b s (val s p) (val t p) i j k) (compared_words g x y w o q) o l e

  ule_made : tree h id ≡ ule (tree g x) (tree g y) → Compares g h x y w id word_ule
  ule_made e = compares ule word_ule g h id x y w (λ s t p a b i u v j k. by_width (λ _. word_ule) w a b s (val s p) (val t p) i j k) (compared_words g x y w o q) o l e

  slt_made : tree h id ≡ slt (tree g x) (tree g y) → Compares g h x y w id (word_slt w)
  slt_made e = compares slt (word_slt w) g h id x y w (λ s t p a b i u v j k. by_width word_slt w a b s (val s p) (val t p) i j k) (compared_words g x y w o q) o l e

  sle_made : tree h id ≡ sle (tree g x) (tree g y) → Compares g h x y w id (word_sle w)
  sle_made e = compares sle (word_sle w) g h id x y w (λ s t p a b i u v j k. by_width word_sle w a b s (val s p) (val t p) i j k) (compared_words g x y w o q) o l e

  pub eq_made : tree h id ≡ eq (tree g x) (tree g y) → Compares g h x y w id (λ a b. a == b)
  eq_made e = compares eq (λ a b. a == b) g h id x y w (λ s t p a b i u v j k. ap (λ c. truth_value (is_equal c (val t p))) j ∙ ap (λ c. truth_value (is_equal (number a) c)) k) (compared_bits g x y w o q) o l e

  pub below_signed : (t : Bool) → t ≡ true → tree h id ≡ slt (tree g x) (tree g y) → Compares g h x y w id (λ a b. int_lt (integer_from t w a) (integer_from t w b))
  below_signed t r e = subst (λ t. Compares g h x y w id (λ a b. int_lt (integer_from t w a) (integer_from t w b))) (sym r) (slt_made e)

  pub below_unsigned : (t : Bool) → t ≡ false → tree h id ≡ ult (tree g x) (tree g y) → Compares g h x y w id (λ a b. int_lt (integer_from t w a) (integer_from t w b))
  below_unsigned t r e = subst (λ t. Compares g h x y w id (λ a b. int_lt (integer_from t w a) (integer_from t w b))) (sym r) (ult_made e)

  pub at_most_signed : (t : Bool) → t ≡ true → tree h id ≡ sle (tree g x) (tree g y) → Compares g h x y w id (λ a b. int_le (integer_from t w a) (integer_from t w b))
  at_most_signed t r e = subst (λ t. Compares g h x y w id (λ a b. int_le (integer_from t w a) (integer_from t w b))) (sym r) (sle_made e)

  pub at_most_unsigned : (t : Bool) → t ≡ false → tree h id ≡ ule (tree g x) (tree g y) → Compares g h x y w id (λ a b. int_le (integer_from t w a) (integer_from t w b))
  at_most_unsigned t r e = subst (λ t. Compares g h x y w id (λ a b. int_le (integer_from t w a) (integer_from t w b))) (sym r) (ule_made e)

-- a number that is above a term that is 0
pub nonzero_made : (g h k : Graph) (id x z w : ℕ) → IsOfSort g x (word w) → Grows g h → IsOfSort h z (word w) → ((p : Valuation) → HasNumber h z w p 0) → id < length k.nodes → tree k id ≡ ult (tree h z) (tree h x)
    → Tests g k x w id is_nonzero
nonzero_made g h k id x z w o grows q zero l e =
    let m : Compares h k z x w id word_ult = ult_made h k id z x w q (IsOfSort-kept x (word w) grows o) l e in
    record { of_sort = m.of_sort; value = λ p a n. m.value p 0 a (zero p) (number_kept x w p a grows o.below n) }

-- ---- connectives

pub and_truth : (g h : Graph) (id x y : ℕ) → IsOfSort g x truth → IsOfSort g y truth → id < length h.nodes → tree h id ≡ and (tree g x) (tree g y) → Connects g h x y id (λ a b. a && b)
and_truth g h id x y o q l e =
    record {
      of_sort = formed h id (and (tree g x) (tree g y)) truth l e (two_alike same_bits_sort (sort_of (tree g x)) (sort_of (tree g y)) truth truth o.sort q.sort refl);
      value = λ p a b m n. record { value = ap (λ t. val t p) e ∙ (ap (λ c. conjunction c (val (tree g y) p)) m.value ∙ ap (conjunction (truth_value a)) n.value) };
    }

pub or_truth : (g h : Graph) (id x y : ℕ) → IsOfSort g x truth → IsOfSort g y truth → id < length h.nodes → tree h id ≡ or (tree g x) (tree g y) → Connects g h x y id (λ a b. a || b)
or_truth g h id x y o q l e =
    record {
      of_sort = formed h id (or (tree g x) (tree g y)) truth l e (two_alike same_bits_sort (sort_of (tree g x)) (sort_of (tree g y)) truth truth o.sort q.sort refl);
      value = λ p a b m n. record { value = ap (λ t. val t p) e ∙ (ap (λ c. disjunction c (val (tree g y) p)) m.value ∙ ap (disjunction (truth_value a)) n.value) };
    }

-- ---- choices

pub choice_sort : (g : Graph) (c x y w : ℕ) → IsOfSort g c truth → IsOfSort g x (word w) → IsOfSort g y (word w) → sort_of (ite (tree g c) (tree g x) (tree g y)) ≡ Some (word w)
choice_sort g c x y w k o q =
    ap (λ a. ite_sort a (sort_of (tree g x)) (sort_of (tree g y))) k.sort
    ∙ two_alike (ite_sort (Some truth)) (sort_of (tree g x)) (sort_of (tree g y)) (word w) (word w) o.sort q.sort (ap (λ b. some_if b (word w)) (eq-eqb w w refl))

chosen : (t : Bool) (a b : ℕ) → cond t (number a) (number b) ≡ number (cond t a b)
chosen true a b = refl
chosen false a b = refl

chosen_below : (t : Bool) (a b n : ℕ) → a < n → b < n → cond t a b < n
chosen_below true a b n h k = h
chosen_below false a b n h k = k

pub choice_made : (g h : Graph) (id c x y w : ℕ) → IsOfSort g c truth → IsOfSort g x (word w) → IsOfSort g y (word w) → id < length h.nodes → tree h id ≡ ite (tree g c) (tree g x) (tree g y) → Chooses g h c x y w id
choice_made g h id c x y w k o q l e =
    record {
      of_sort = formed h id (ite (tree g c) (tree g x) (tree g y)) (word w) l e (choice_sort g c x y w k o q);
      value = λ p t a b i m n. record {
        value = ap (λ t. val t p) e
            ∙ (ap (λ d. cond (as_truth d) (val (tree g x) p) (val (tree g y) p)) i.value
            ∙ (ap (λ d. cond t d (val (tree g y) p)) m.value ∙ (ap (cond t (number a)) n.value ∙ chosen t a b)));
        fits = chosen_below t a b (2 ^ w) m.fits n.fits;
      };
    }

-- 1 or 0
pub bit_made : (g h i k : Graph) (id c x y w : ℕ) → IsOfSort g c truth → Grows g h → Grows h i → IsOfSort h x (word w) → ((p : Valuation) → HasNumber h x w p 1) → ((p : Valuation) → HasNumber i y w p 0)
    → Chooses i k c x y w id → Counts g k c id w bit
bit_made g h i k id c x y w o one two q is_one is_zero m =
    record {
      of_sort = m.of_sort;
      value = λ p b t. m.value p b 1 0 (truth_kept c p b (Grows-trans one two) o.below t) (number_kept x w p 1 two q.below (is_one p)) (is_zero p);
    }

pub one_fits : (w : ℕ) → 1 ≤ w → 1 < 2 ^ w
one_fits w h = bit_below true w h

pub zero_fits : (w : ℕ) → 0 < 2 ^ w
zero_fits w = pow_pos w
