-- Conditions that give a name one value.
use Rattle.std.proofs.Common.{◌≡◌, ℕ, zero, suc, ◌<◌, ◌^◌, Bool, true, false, ◌&&◌, ◌==◌, nat_lt, length, Option, Some, None, refl, sym, ap, ◌∙◌, subst, arith}
use Rattle.std.specs.Prelude.{IsSome}
use Rattle.std.proofs.lemmas.Bool.{false≢true}
use Rattle.wb_values.specs.Value.{Sort, truth, word, Value, truth_value, number, words, as_number, Valuation, HasSort}
use Rattle.wb_values.specs.Number.{word_ult}
use Rattle.wb_values.specs.Choice.{some_if}
use Rattle.model_meaning.specs.Term.{Term, const, eq, ult, same_bits_sort, same_word_sort, compared, is_width, is_equal, sort_of, val}
use Rattle.wb_terms.specs.declared.nodes.Node.{Node}
use Rattle.wb_terms.specs.declared.nodes.Node.TheVariants.{Truth, Const}
use Rattle.wb_terms.specs.Graph.{Graph, tree}
use Rattle.wb_terms.proofs.HeldLemmas.{same_number, below, test_of}
use Rattle.condition_terms.specs.Told.{IsTermOf, AreAllOfSorts, is_true}
use Rattle.condition_terms.proofs.Forming.{truth_form, number_form}
use Rattle.fixed_terms.specs.Fixed.{IsFixed}

-- the same under another condition
pub fixed_where : {g : Graph} (k : ℕ) (n : Node) (P Q : Valuation → Type 0) → ((v : Valuation) → Q v → P v) → IsFixed g k P n → IsFixed g k Q n
fixed_where k n P Q q f = record { constant = f.constant; sorted = f.sorted; sort = f.sort; worth = λ v fit h. f.worth v fit (q v h) }

-- a name that is a condition
pub truth_fixed : (g : Graph) (k : ℕ) (b : Bool) → IsTermOf g k truth → IsFixed g k (λ v. is_true g k v ≡ b) (Truth b)
truth_fixed g k b w = record {
  constant = tt;
  sorted = refl;
  sort = sym w.sort;
  worth = λ v fit h. ap truth_value (sym h) ∙ sym (truth_form (val (tree g k) v) (w.is_of v fit));
}

-- ---- words

taken : (c : Bool) (s : Sort) → IsSome (some_if c s) → some_if c s ≡ Some s
taken true s h = refl
taken false s h = absurd (false≢true h)

bounded : (x : Value) (w : ℕ) → HasSort x (word w) → as_number x < 2 ^ w
bounded (truth_value b) w h = absurd (false≢true h)
bounded (number n) w h = below n (2 ^ w) h
bounded (words ws) w h = absurd (false≢true h)

word_fixed : (g : Graph) (x w c : ℕ) (P : Valuation → Type 0) → AreAllOfSorts g → x < length g.nodes → sort_of (tree g x) ≡ Some (word w) → sort_of (const w c) ≡ Some (word w)
    → ((v : Valuation) (n : ℕ) → n < 2 ^ w → val (tree g x) v ≡ number n → P v → n ≡ c) → IsFixed g x P (Const w c)
word_fixed g x w c P all l s t f = record {
  constant = tt;
  sorted = subst IsSome (sym t) refl;
  sort = t ∙ sym s;
  worth = λ v fit p.
      let h = (all x (word w) l s).is_of v fit in
      let form = number_form (val (tree g x) v) w h in
      ap number (sym (f v (as_number (val (tree g x) v)) (bounded (val (tree g x) v) w h) form p)) ∙ sym form;
}

-- the sort of the term beside a constant
beside : (g : Graph) (x y w c : ℕ) → sort_of (tree g x) ≡ sort_of (tree g y) → tree g y ≡ const w c → IsSome (sort_of (tree g y)) → (sort_of (tree g x) ≡ Some (word w)) × (sort_of (const w c) ≡ Some (word w))
beside g x y w c same e h =
    let s : sort_of (const w c) ≡ Some (word w) = taken (is_width w && nat_lt c (2 ^ w)) (word w) (subst (λ (t : Term). IsSome (sort_of t)) e h) in
    (same ∙ ap sort_of e ∙ s, s)

equal_to : (g : Graph) (x y w c n : ℕ) (v : Valuation) → tree g y ≡ const w c → val (tree g x) v ≡ number n → is_equal (val (tree g x) v) (val (tree g y) v) ≡ (n == c)
equal_to g x y w c n v e i = ap (λ a. is_equal a (val (tree g y) v)) i ∙ ap (λ (t : Term). is_equal (number n) (val t v)) e

above_to : (g : Graph) (x y w c n : ℕ) (v : Valuation) → tree g x ≡ const w c → val (tree g y) v ≡ number n → word_ult (as_number (val (tree g x) v)) (as_number (val (tree g y) v)) ≡ nat_lt c n
above_to g x y w c n v e i = ap (λ (t : Term). word_ult (as_number (val t v)) (as_number (val (tree g y) v))) e ∙ ap (λ a. word_ult c (as_number a)) i

not_0 : (n : ℕ) → n < 2 → (n == 0) ≡ false → n ≡ 1
not_0 zero l e = absurd (false≢true (sym e))
not_0 (suc zero) l e = refl
not_0 (suc (suc n)) l e = absurd (omega (arith, l))

not_1 : (n : ℕ) → n < 2 → (n == 1) ≡ false → n ≡ 0
not_1 zero l e = refl
not_1 (suc zero) l e = absurd (false≢true (sym e))
not_1 (suc (suc n)) l e = absurd (omega (arith, l))

not_above : (n : ℕ) → nat_lt 0 n ≡ false → n ≡ 0
not_above zero e = refl
not_above (suc n) e = absurd (false≢true (sym e ∙ test_of 0 (suc n) (omega arith)))

is_above : (n : ℕ) → n < 2 → nat_lt 0 n ≡ true → n ≡ 1
is_above n l e = let h : 0 < n = below 0 n e in omega (arith, l, h)

pub equal_fixed : (g : Graph) (x y w c : ℕ) → AreAllOfSorts g → x < length g.nodes → sort_of (tree g x) ≡ sort_of (tree g y) → tree g y ≡ const w c → IsSome (sort_of (tree g y))
    → IsFixed g x (λ v. is_equal (val (tree g x) v) (val (tree g y) v) ≡ true) (Const w c)
equal_fixed g x y w c all l same e h =
    let s = beside g x y w c same e h in
    word_fixed g x w c (λ v. is_equal (val (tree g x) v) (val (tree g y) v) ≡ true) all l s.0 s.1 (λ v n b i p. same_number n c (sym (equal_to g x y w c n v e i) ∙ p))

pub not_0_fixed : (g : Graph) (x y : ℕ) → AreAllOfSorts g → x < length g.nodes → sort_of (tree g x) ≡ sort_of (tree g y) → tree g y ≡ const 1 0 → IsSome (sort_of (tree g y))
    → IsFixed g x (λ v. is_equal (val (tree g x) v) (val (tree g y) v) ≡ false) (Const 1 1)
not_0_fixed g x y all l same e h =
    let s = beside g x y 1 0 same e h in
    word_fixed g x 1 1 (λ v. is_equal (val (tree g x) v) (val (tree g y) v) ≡ false) all l s.0 refl (λ v n b i p. not_0 n b (sym (equal_to g x y 1 0 n v e i) ∙ p))

pub not_1_fixed : (g : Graph) (x y : ℕ) → AreAllOfSorts g → x < length g.nodes → sort_of (tree g x) ≡ sort_of (tree g y) → tree g y ≡ const 1 1 → IsSome (sort_of (tree g y))
    → IsFixed g x (λ v. is_equal (val (tree g x) v) (val (tree g y) v) ≡ false) (Const 1 0)
not_1_fixed g x y all l same e h =
    let s = beside g x y 1 1 same e h in
    word_fixed g x 1 0 (λ v. is_equal (val (tree g x) v) (val (tree g y) v) ≡ false) all l s.0 refl (λ v n b i p. not_1 n b (sym (equal_to g x y 1 1 n v e i) ∙ p))

pub not_above_fixed : (g : Graph) (x y w : ℕ) → AreAllOfSorts g → y < length g.nodes → sort_of (tree g x) ≡ sort_of (tree g y) → tree g x ≡ const w 0 → IsSome (sort_of (tree g x))
    → IsFixed g y (λ v. word_ult (as_number (val (tree g x) v)) (as_number (val (tree g y) v)) ≡ false) (Const w 0)
not_above_fixed g x y w all l same e h =
    let s = beside g y x w 0 (sym same) e h in
    word_fixed g y w 0 (λ v. word_ult (as_number (val (tree g x) v)) (as_number (val (tree g y) v)) ≡ false) all l s.0 s.1 (λ v n b i p. not_above n (sym (above_to g x y w 0 n v e i) ∙ p))

pub is_above_fixed : (g : Graph) (x y : ℕ) → AreAllOfSorts g → y < length g.nodes → sort_of (tree g x) ≡ sort_of (tree g y) → tree g x ≡ const 1 0 → IsSome (sort_of (tree g x))
    → IsFixed g y (λ v. word_ult (as_number (val (tree g x) v)) (as_number (val (tree g y) v)) ≡ true) (Const 1 1)
is_above_fixed g x y all l same e h =
    let s = beside g y x 1 0 (sym same) e h in
    word_fixed g y 1 1 (λ v. word_ult (as_number (val (tree g x) v)) (as_number (val (tree g y) v)) ≡ true) all l s.0 refl (λ v n b i p. is_above n b (sym (above_to g x y 1 0 n v e i) ∙ p))

-- ---- comparisons have operands of one sort

abbrev is_there : Option Sort → Bool
is_there (Some s) = true
is_there None = false

alike : (w u : ℕ) (b : Bool) → (w == u) ≡ b → compared (some_if b (word w)) ≡ Some truth → Some (word w) ≡ Some (word u)
alike w u true q e = ap (λ (k : ℕ). Some (word k)) (same_number w u q)
alike w u false q e = absurd (false≢true (ap is_there e))

bits_alike : (o p : Option Sort) → compared (same_bits_sort o p) ≡ Some truth → o ≡ p
bits_alike (Some truth) (Some truth) e = refl
bits_alike (Some (word w)) (Some (word u)) e = alike w u (w == u) refl e
bits_alike _ _ e = absurd (false≢true (ap is_there e))

words_alike : (o p : Option Sort) → compared (same_word_sort o p) ≡ Some truth → o ≡ p
words_alike (Some (word w)) (Some (word u)) e = alike w u (w == u) refl e
words_alike _ _ e = absurd (false≢true (ap is_there e))

pub equal_sorts : (g : Graph) (k x y : ℕ) → sort_of (tree g k) ≡ Some truth → tree g k ≡ eq (tree g x) (tree g y) → sort_of (tree g x) ≡ sort_of (tree g y)
equal_sorts g k x y s e = bits_alike (sort_of (tree g x)) (sort_of (tree g y)) (sym (ap sort_of e) ∙ s)

pub above_sorts : (g : Graph) (k x y : ℕ) → sort_of (tree g k) ≡ Some truth → tree g k ≡ ult (tree g x) (tree g y) → sort_of (tree g x) ≡ sort_of (tree g y)
above_sorts g k x y s e = words_alike (sort_of (tree g x)) (sort_of (tree g y)) (sym (ap sort_of e) ∙ s)
