-- The sorts of forms of terms over terms of a store, and what these are worth.
use Rattle.std.proofs.Common.{◌≡◌, ℕ, ◌+◌, ◌-◌, ◌*◌, ◌<◌, ◌≤◌, ◌^◌, Bool, true, false, cond, ◌&&◌, nat_le, nat_lt, length, Option, Some, refl, sym, ap, ◌∙◌, subst, arith, eq-eqb}
use Rattle.std.specs.Prelude.{IsSome}
use Rattle.std.proofs.lemmas.Bool.Decides.{nat_tests}
use Rattle.wb_values.specs.Value.{Sort, word, Value, number, Valuation, as_number}
use Rattle.wb_values.specs.Number.{word_not, word_neg, word_and, word_or, word_xor, word_add, word_sub, word_mul, word_shl, word_lshr, word_ashr, word_sext}
use Rattle.wb_values.specs.Choice.{some_if}
use Rattle.model_meaning.specs.Term.{Term, const, not, neg, and, or, xor, add, sub, mul, shl, lshr, ashr, zext, sext, is_width, bits_sort, same_bits_sort, word_sort, same_word_sort, extended_sort, sort_of, width_of_sort, term_width, complement, conjunction, disjunction, exclusive_or, val}
use Rattle.verilog_meaning.specs.Expression.{widened}
use Rattle.wb_terms.specs.Graph.{Graph, tree}
use Rattle.v_operators.specs.Meaning.{IsOfSort, HasNumber, Makes, Joins}
use Rattle.v_operators.proofs.Bounds.{not_below, neg_below, add_below, sub_below, mul_below, and_below, or_below, xor_below, shl_below, lshr_below, ashr_below, sext_below, zext_below}

pub some : {A : Type 0} (o : Option A) (x : A) → o ≡ Some x → IsSome o
some o x e = ap (λ y. y) (subst (λ o. IsSome o) (sym e) refl)

-- a new term by its tree
pub formed : (h : Graph) (id : ℕ) (t : Term) (s : Sort) → id < length h.nodes → tree h id ≡ t → sort_of t ≡ Some s → IsOfSort h id s
formed h id t s b e o = record { below = b; sort = ap sort_of e ∙ o }

-- ---- one operand

abbrev pub IsShape1 : (Term → Term) → (ℕ → ℕ) → ℕ → Type 0
IsShape1 T f w = (s : Term) (p : Valuation) (a : ℕ) → sort_of s ≡ Some (word w) → val s p ≡ number a → val (T s) p ≡ number (f a)

pub makes : (T : Term → Term) (f : ℕ → ℕ) (g h : Graph) (id x u w : ℕ) → IsShape1 T f u → ((a : ℕ) → a < 2 ^ u → f a < 2 ^ w) → sort_of (T (tree g x)) ≡ Some (word w)
    → IsOfSort g x (word u) → id < length h.nodes → tree h id ≡ T (tree g x) → Makes g h x u id w f
makes T f g h id x u w shape bound sort o below e =
    record {
      of_sort = formed h id (T (tree g x)) (word w) below e sort;
      value = λ p a m. record { value = ap (λ t. val t p) e ∙ shape (tree g x) p a o.sort m.value; fits = bound a m.fits };
    }

pub neg_sort : (g : Graph) (x w : ℕ) → IsOfSort g x (word w) → sort_of (neg (tree g x)) ≡ Some (word w)
neg_sort g x w o = ap word_sort o.sort

pub not_sort : (g : Graph) (x w : ℕ) → IsOfSort g x (word w) → sort_of (not (tree g x)) ≡ Some (word w)
not_sort g x w o = ap bits_sort o.sort

pub neg_made : (g h : Graph) (id x w : ℕ) → IsOfSort g x (word w) → id < length h.nodes → tree h id ≡ neg (tree g x) → Makes g h x w id w (word_neg w)
neg_made g h id x w o b e =
    makes neg (word_neg w) g h id x w w
    (λ s p a i j. ap (λ c. number (word_neg (width_of_sort c) (as_number (val s p)))) i ∙ ap (λ c. number (word_neg w (as_number c))) j)
    (λ a l. neg_below w a) (neg_sort g x w o) o b e

pub not_made : (g h : Graph) (id x w : ℕ) → IsOfSort g x (word w) → id < length h.nodes → tree h id ≡ not (tree g x) → Makes g h x w id w (word_not w)
not_made g h id x w o b e =
    makes not (word_not w) g h id x w w
    (λ s p a i j. ap (complement (term_width s)) j ∙ ap (λ c. number (word_not (width_of_sort c) a)) i)
    (λ a l. not_below w a) (not_sort g x w o) o b e

extended_test : (w n : ℕ) → w ≤ n → n ≤ 128 → (nat_le w n && nat_le n 128) ≡ true
extended_test w n a b = grind (arith, nat_tests)

pub extended : (w n : ℕ) (o : Option Sort) → o ≡ Some (word w) → w ≤ n → n ≤ 128 → extended_sort n o ≡ Some (word n)
extended w n o e a b = ap (extended_sort n) e ∙ ap (λ t. some_if t (word n)) (extended_test w n a b)

pub sext_made : (g h : Graph) (id x w n : ℕ) → IsOfSort g x (word w) → w ≤ n → n ≤ 128 → id < length h.nodes → tree h id ≡ sext n (tree g x) → Makes g h x w id n (word_sext n w)
sext_made g h id x w n o l k b e =
    makes (sext n) (word_sext n w) g h id x w n
    (λ s p a i j. ap (λ c. number (word_sext n (width_of_sort c) (as_number (val s p)))) i ∙ ap (λ c. number (word_sext n w (as_number c))) j)
    (λ a m. sext_below n w a l m) (extended w n (sort_of (tree g x)) o.sort l k) o b e

pub zext_made : (g h : Graph) (id x w n : ℕ) → IsOfSort g x (word w) → w ≤ n → n ≤ 128 → id < length h.nodes → tree h id ≡ zext n (tree g x) → Makes g h x w id n (λ a. a)
zext_made g h id x w n o l k b e =
    makes (zext n) (λ a. a) g h id x w n (λ s p a i j. ap (λ c. number (as_number c)) j) (λ a m. zext_below n w a l m) (extended w n (sort_of (tree g x)) o.sort l k) o b e

-- a number that is as wide already
same_top : (b : Bool) (x n : ℕ) → x ≡ x + cond b (n - n) 0
same_top true x n = omega arith
same_top false x n = omega arith

same_width : (t : Bool) (w x : ℕ) → x ≡ widened t w w x
same_width true w x = same_top (nat_le (2 ^ w) (2 * x)) x (2 ^ w)
same_width false w x = refl

pub widened_same : (g : Graph) (x w n : ℕ) (t : Bool) → w ≡ n → IsOfSort g x (word w) → Makes g g x w x n (widened t w n)
widened_same g x w n t e o =
    subst (λ n. Makes g g x w x n (widened t w n)) e
    (record { of_sort = o; value = λ p a m. record { value = m.value ∙ ap (λ k. number k) (same_width t w a); fits = subst (λ k. k < 2 ^ w) (same_width t w a) m.fits } })

pub widened_signed : (g h : Graph) (id x w n : ℕ) (t : Bool) → t ≡ true → IsOfSort g x (word w) → w ≤ n → n ≤ 128 → id < length h.nodes → tree h id ≡ sext n (tree g x) → Makes g h x w id n (widened t w n)
widened_signed g h id x w n t q o l k b e = subst (λ t. Makes g h x w id n (widened t w n)) (sym q) (sext_made g h id x w n o l k b e)

pub widened_unsigned : (g h : Graph) (id x w n : ℕ) (t : Bool) → t ≡ false → IsOfSort g x (word w) → w ≤ n → n ≤ 128 → id < length h.nodes → tree h id ≡ zext n (tree g x) → Makes g h x w id n (widened t w n)
widened_unsigned g h id x w n t q o l k b e = subst (λ t. Makes g h x w id n (widened t w n)) (sym q) (zext_made g h id x w n o l k b e)

-- ---- constants

const_test : (w k n : ℕ) → 1 ≤ w → w ≤ 128 → k < n → (is_width w && nat_lt k n) ≡ true
const_test w k n a b c = grind (arith, nat_tests)

pub const_sort : (w k : ℕ) → 1 ≤ w → w ≤ 128 → k < 2 ^ w → sort_of (const w k) ≡ Some (word w)
const_sort w k a b c = ap (λ t. some_if t (word w)) (const_test w k (2 ^ w) a b c)

pub const_sorted : (h : Graph) (id w k : ℕ) → 1 ≤ w → w ≤ 128 → k < 2 ^ w → id < length h.nodes → tree h id ≡ const w k → IsOfSort h id (word w)
const_sorted h id w k a b c l e = formed h id (const w k) (word w) l e (const_sort w k a b c)

pub const_value : (h : Graph) (id w k : ℕ) → k < 2 ^ w → tree h id ≡ const w k → (p : Valuation) → HasNumber h id w p k
const_value h id w k c e p = record { value = ap (λ t. val t p) e; fits = c }

-- ---- two operands of one width

abbrev pub IsShape2 : (Term → Term → Term) → (ℕ → ℕ → ℕ) → ℕ → Type 0
IsShape2 T f w = (s t : Term) (p : Valuation) (a b : ℕ) → sort_of s ≡ Some (word w) → val s p ≡ number a → val t p ≡ number b → val (T s t) p ≡ number (f a b)

pub two_alike : (F : Option Sort → Option Sort → Option Sort) (a b : Option Sort) (s r : Sort) → a ≡ Some s → b ≡ Some s → F (Some s) (Some s) ≡ Some r → F a b ≡ Some r
two_alike F a b s r p q e = ap (λ o. F o b) p ∙ (ap (F (Some s)) q ∙ e)

pub same_words : (w : ℕ) → same_word_sort (Some (word w)) (Some (word w)) ≡ Some (word w)
same_words w = ap (λ b. some_if b (word w)) (eq-eqb w w refl)

pub joins : (T : Term → Term → Term) (f : ℕ → ℕ → ℕ) (g h : Graph) (id x y w : ℕ) → IsShape2 T f w → ((a b : ℕ) → a < 2 ^ w → b < 2 ^ w → f a b < 2 ^ w)
    → sort_of (T (tree g x) (tree g y)) ≡ Some (word w) → IsOfSort g x (word w) → id < length h.nodes → tree h id ≡ T (tree g x) (tree g y) → Joins g h x w y w id w f
joins T f g h id x y w shape bound sort o below e =
    record {
      of_sort = formed h id (T (tree g x) (tree g y)) (word w) below e sort;
      value = λ p a b m n. record { value = ap (λ t. val t p) e ∙ shape (tree g x) (tree g y) p a b o.sort m.value n.value; fits = bound a b m.fits n.fits };
    }

pub same_word : (g : Graph) (x y w : ℕ) → IsOfSort g x (word w) → IsOfSort g y (word w) → same_word_sort (sort_of (tree g x)) (sort_of (tree g y)) ≡ Some (word w)
same_word g x y w o q = two_alike same_word_sort (sort_of (tree g x)) (sort_of (tree g y)) (word w) (word w) o.sort q.sort (same_words w)

pub same_bits : (g : Graph) (x y w : ℕ) → IsOfSort g x (word w) → IsOfSort g y (word w) → same_bits_sort (sort_of (tree g x)) (sort_of (tree g y)) ≡ Some (word w)
same_bits g x y w o q = two_alike same_bits_sort (sort_of (tree g x)) (sort_of (tree g y)) (word w) (word w) o.sort q.sort (same_words w)

-- a formula of the width and two numbers
by_width : (f : ℕ → ℕ → ℕ → ℕ) (w a b : ℕ) (s : Term) (c d : Value) → sort_of s ≡ Some (word w) → c ≡ number a → d ≡ number b → number (f (term_width s) (as_number c) (as_number d)) ≡ number (f w a b)
by_width f w a b s c d i j k =
    ap (λ o. number (f (width_of_sort o) (as_number c) (as_number d))) i ∙ (ap (λ x. number (f w (as_number x) (as_number d))) j ∙ ap (λ x. number (f w a (as_number x))) k)

module _ (g h : Graph) (id x y w : ℕ) (o : IsOfSort g x (word w)) (q : IsOfSort g y (word w)) (l : id < length h.nodes) where
  pub add_made : tree h id ≡ add (tree g x) (tree g y) → Joins g h x w y w id w (word_add w)
  add_made e = joins add (word_add w) g h id x y w (λ s t p a b i j k. by_width word_add w a b s (val s p) (val t p) i j k) (add_below w) (same_word g x y w o q) o l e

  pub sub_made : tree h id ≡ sub (tree g x) (tree g y) → Joins g h x w y w id w (word_sub w)
  sub_made e = joins sub (word_sub w) g h id x y w (λ s t p a b i j k. by_width word_sub w a b s (val s p) (val t p) i j k) (sub_below w) (same_word g x y w o q) o l e

  pub mul_made : tree h id ≡ mul (tree g x) (tree g y) → Joins g h x w y w id w (word_mul w)
  mul_made e = joins mul (word_mul w) g h id x y w (λ s t p a b i j k. by_width word_mul w a b s (val s p) (val t p) i j k) (mul_below w) (same_word g x y w o q) o l e

  pub shl_made : tree h id ≡ shl (tree g x) (tree g y) → Joins g h x w y w id w (word_shl w)
  shl_made e = joins shl (word_shl w) g h id x y w (λ s t p a b i j k. by_width word_shl w a b s (val s p) (val t p) i j k) (shl_below w) (same_word g x y w o q) o l e

  pub lshr_made : tree h id ≡ lshr (tree g x) (tree g y) → Joins g h x w y w id w (word_lshr w)
  lshr_made e = joins lshr (word_lshr w) g h id x y w (λ s t p a b i j k. by_width word_lshr w a b s (val s p) (val t p) i j k) (lshr_below w) (same_word g x y w o q) o l e

  pub ashr_made : tree h id ≡ ashr (tree g x) (tree g y) → Joins g h x w y w id w (word_ashr w)
  ashr_made e = joins ashr (word_ashr w) g h id x y w (λ s t p a b i j k. by_width word_ashr w a b s (val s p) (val t p) i j k) (ashr_below w) (same_word g x y w o q) o l e

  pub and_made : tree h id ≡ and (tree g x) (tree g y) → Joins g h x w y w id w word_and
  and_made e = joins and word_and g h id x y w (λ s t p a b i j k. ap (λ c. conjunction c (val t p)) j ∙ ap (conjunction (number a)) k) (and_below w) (same_bits g x y w o q) o l e

  pub or_made : tree h id ≡ or (tree g x) (tree g y) → Joins g h x w y w id w word_or
  or_made e = joins or word_or g h id x y w (λ s t p a b i j k. ap (λ c. disjunction c (val t p)) j ∙ ap (disjunction (number a)) k) (or_below w) (same_bits g x y w o q) o l e

  pub xor_made : tree h id ≡ xor (tree g x) (tree g y) → Joins g h x w y w id w word_xor
  xor_made e = joins xor word_xor g h id x y w (λ s t p a b i j k. ap (λ c. exclusive_or c (val t p)) j ∙ ap (exclusive_or (number a)) k) (xor_below w) (same_bits g x y w o q) o l e
