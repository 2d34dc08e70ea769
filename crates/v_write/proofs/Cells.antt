-- What cells hold after a number was written to them, and that it is a value of their object.
use Rattle.std.proofs.Common.{◌≡◌, ℕ, zero, suc, ◌+◌, ◌-◌, ◌*◌, ◌/◌, ◌%◌, ◌^◌, ◌<◌, ◌≤◌, min, max, Bool, true, false, cond, not, ◌&&◌, nat_le, nat_lt, List, [], ◌∷◌, Option, Some, None, refl, ap, sym, subst, ◌∙◌, arith, ⊎_elim, slice_index, slice_set, length-set, get_or-set_other, ℤ, pos, negsuc, ◌-ℤ◌}
use Rattle.std.specs.Prelude.{is_some, option_and_then}
use Rattle.std.proofs.Math.Pow.{pow_pos}
use Rattle.std.proofs.Math.Nat.{mod-lt, mod-one, mod-eq_of_lt, div-eq_of_lt}
use Rattle.std.proofs.lemmas.Bool.{false≢true, cases_lt}
use Rattle.std.proofs.lemmas.Bool.Decides.{nat_tests}
use Rattle.std.proofs.lemmas.Int.{ints}
use borrow.Author.Tests.{lt-ltb, le-ltb, lt-leb, le-leb}
use Rattle.wb_values.specs.Value.{Value, truth_value, number, words, as_number}
use Rattle.verilog_meaning.specs.Expression.{Object, Bits, distance, object_width, is_memory, word_number}
use Rattle.verilog_meaning.specs.Statement.{Cell, variable_cell, word_cell, no_cell, cell_at, indexed_cell, all_bits, with_bits_at, with_bits, written_cell}
use Rattle.verilog_meaning.specs.Register.{word_count, words_between}
use Rattle.verilog_meaning.specs.Settled.{AreWords, IsValueOf}
use Rattle.v_bits.specs.Moving.{IsPlace, at_place, below_zero, far_above, far_below}

-- ---- all bits

pub all_written : (o : Object) (a x : ℕ) → a < 2 ^ object_width o → x < 2 ^ object_width o → with_bits (object_width o) a (all_bits o) x ≡ x
all_written o a x h k = whole (object_width o) h k where
  plain : (n : ℕ) → 0 + 2 ^ 0 * x + n * 0 ≡ x
  plain n = omega arith

  whole : (w : ℕ) → a < 2 ^ w → x < 2 ^ w → (a % 2 ^ 0 + 2 ^ 0 * (x % 2 ^ w) + 2 ^ (0 + w) * (a / 2 ^ (0 + w))) % 2 ^ w ≡ x
  whole w h k =
      let e : 0 + w ≡ w = omega arith in
      let z : a / 2 ^ (0 + w) ≡ 0 = subst (λ n. a / 2 ^ n ≡ 0) (sym e) (div-eq_of_lt h) in
      let q : a % 2 ^ 0 ≡ 0 = mod-one a in
      let r : x % 2 ^ w ≡ x = mod-eq_of_lt {n = x} {m = 2 ^ w} k in
      ap (λ n. (n + 2 ^ 0 * (x % 2 ^ w) + 2 ^ (0 + w) * (a / 2 ^ (0 + w))) % 2 ^ w) q
      ∙ ap (λ n. (0 + 2 ^ 0 * n + 2 ^ (0 + w) * (a / 2 ^ (0 + w))) % 2 ^ w) r
      ∙ ap (λ n. (0 + 2 ^ 0 * x + 2 ^ (0 + w) * n) % 2 ^ w) z
      ∙ ap (λ n. n % 2 ^ w) (plain (2 ^ (0 + w)))
      ∙ r

-- ---- the words of a memory

-- the words after the cell was given another word, by what stood in it
abbrev pub words_at : List ℕ → (ℕ → ℕ) → Cell → List ℕ
words_at xs f variable_cell = xs
words_at xs f (word_cell k) = slice_set xs k (f k)
words_at xs f no_cell = xs

module _ (f l : ℕ) (xs : List ℕ) (fill : ℕ → ℕ) (small_f : f < 2 ^ 32) (small_l : l < 2 ^ 32) where
  count : ℕ
  count = distance f l + 1

  here : (b : ℕ) → b < distance f l + 1 → cond (nat_lt b (distance f l + 1)) (slice_set xs b (fill b)) xs ≡ slice_set xs b (fill b)
  here b h = ap (λ t. cond t (slice_set xs b (fill b)) xs) (lt-ltb b (distance f l + 1) h)

  nowhere : (b : ℕ) → distance f l + 1 ≤ b → cond (nat_lt b (distance f l + 1)) (slice_set xs b (fill b)) xs ≡ xs
  nowhere b h = ap (λ t. cond t (slice_set xs b (fill b)) xs) (le-ltb b (distance f l + 1) h)

  inside : (i b : ℕ) → min f l ≤ i → i ≤ max f l → b ≡ i - min f l → cond (nat_lt b (distance f l + 1)) (slice_set xs b (fill b)) xs ≡ words_at xs fill (cell_at (word_number (f, l) (pos i)))
  inside i b low high e =
      let t : nat_le (min f l) i && nat_le i (max f l) ≡ true = ap (λ z. z && nat_le i (max f l)) (le-leb _ _ low) ∙ le-leb _ _ high in
      here b (omega (arith, e, low, high)) ∙ (ap (λ k. slice_set xs k (fill k)) e ∙ ap (λ z. words_at xs fill (cell_at (cond z (Some (i - min f l)) None))) (sym t))

  above : (i : ℕ) → max f l < i → words_at xs fill (cell_at (word_number (f, l) (pos i))) ≡ xs
  above i h = ap (λ z. words_at xs fill (cell_at (cond (nat_le (min f l) i && z) (Some (i - min f l)) None))) (lt-leb _ _ h) ∙ none (nat_le (min f l) i) where
    none : (t : Bool) → words_at xs fill (cell_at (cond (t && false) (Some (i - min f l)) None)) ≡ xs
    none true = refl
    none false = refl

  under : (i : ℕ) → i < min f l → words_at xs fill (cell_at (word_number (f, l) (pos i))) ≡ xs
  under i h = ap (λ z. words_at xs fill (cell_at (cond (z && nat_le i (max f l)) (Some (i - min f l)) None))) (lt-leb _ _ h)

  pub stored-cell : (z : ℤ) (b : ℕ) → IsPlace (2 ^ 60) (2 ^ 62 + 2 ^ 34) (z -ℤ pos (min f l)) b
      → cond (nat_lt b (distance f l + 1)) (slice_set xs b (fill b)) xs ≡ words_at xs fill (cell_at (word_number (f, l) z))
  stored-cell (pos i) b (at_place e h) =
      let s : i ≡ min f l + b = omega (arith, ints, e) in
      ⊎_elim (λ lt. nowhere b (omega (arith, s, lt)) ∙ sym (above i lt))
      (λ le. inside i b (omega (arith, s)) le (omega (arith, s))) (cases_lt (max f l) i)
  stored-cell (pos i) b (below_zero e m h) =
      let s : i + 2 ^ 64 ≡ min f l + b = omega (arith, ints, e) in
      nowhere b (omega (arith, m, small_f, small_l)) ∙ sym (under i (omega (arith, s, h)))
  stored-cell (pos i) b (far_above k e m n u) =
      let s : i ≡ min f l + k = omega (arith, ints, e) in
      nowhere b (omega (arith, n, small_f, small_l)) ∙ sym (above i (omega (arith, s, m, small_f, small_l)))
  stored-cell (pos i) b (far_below k e m n u) =
      let s : i + k ≡ min f l = omega (arith, ints, e) in
      nowhere b (omega (arith, n, small_f, small_l)) ∙ sym (under i (omega (arith, s, m)))
  stored-cell (negsuc i) b (at_place e h) = absurd (omega (arith, ints, e))
  stored-cell (negsuc i) b (below_zero e m h) = nowhere b (omega (arith, m, small_f, small_l))
  stored-cell (negsuc i) b (far_above k e m n u) = nowhere b (omega (arith, n, small_f, small_l))
  stored-cell (negsuc i) b (far_below k e m n u) = nowhere b (omega (arith, n, small_f, small_l))

-- what a cell of a memory holds
pub words_written : (o : Object) (xs : List ℕ) (c : Option ℕ) (b : Bits) (x : ℕ)
    → written_cell o (words xs) (cell_at c) b x ≡ words (words_at xs (λ k. with_bits (object_width o) (slice_index xs k) b x) (cell_at c))
words_written o xs None b x = refl
words_written o xs (Some k) b x = refl

-- ---- values

bits_fit : (w old : ℕ) (b : Bits) (y : ℕ) → with_bits w old b y < 2 ^ w
bits_fit w old b y = by_place b.low where
  by_place : (z : ℤ) → with_bits_at w old z b.count y < 2 ^ w
  by_place (pos k) = mod-lt _ (pow_pos w)
  by_place (negsuc k) = mod-lt _ (pow_pos w)

word_fits : (w k j y : ℕ) (xs : List ℕ) → ((i : ℕ) → slice_index xs i < 2 ^ w) → y < 2 ^ w → slice_index (slice_set xs k y) j < 2 ^ w
word_fits w k j y [] h b = h j
word_fits w zero zero y (x ∷ xs) h b = b
word_fits w zero (suc j) y (x ∷ xs) h b = h (suc j)
word_fits w (suc k) zero y (x ∷ xs) h b = h zero
word_fits w (suc k) (suc j) y (x ∷ xs) h b = word_fits w k j y xs (λ i. h (suc i)) b

words_fit : (n w : ℕ) (xs : List ℕ) (k y : ℕ) → k < n → y < 2 ^ w → AreWords n w xs → AreWords n w (slice_set xs k y)
words_fit n w xs k y l b h =
    record {
      address_width = h.address_width;
      is_address_width = h.is_address_width;
      all = length-set xs k y ∙ h.all;
      narrow = λ j. word_fits w k j y xs h.narrow b;
      past = λ j m. get_or-set_other xs k j y 0 (λ e. absurd (omega (arith, l, m, e))) ∙ h.past j m;
    }

-- the number of a word is below the count of words
in_range : (a : ℕ × ℕ) (z : ℤ) (k : ℕ) → word_number a z ≡ Some k → k < distance a.0 a.1 + 1
in_range a (pos i) k e = by_tests (nat_le (min a.0 a.1) i) (nat_le i (max a.0 a.1)) refl refl e where
  first : Option ℕ → ℕ
  first (Some x) = x
  first None = 0

  by_tests : (s t : Bool) → nat_le (min a.0 a.1) i ≡ s → nat_le i (max a.0 a.1) ≡ t → cond (s && t) (Some (i - min a.0 a.1)) None ≡ Some k → k < distance a.0 a.1 + 1
  by_tests true true p q r =
      let low : min a.0 a.1 ≤ i = grind (arith, nat_tests, p) in
      let high : i ≤ max a.0 a.1 = grind (arith, nat_tests, q) in
      let same : i - min a.0 a.1 ≡ k = ap first r in
      omega (arith, low, high, same)
  by_tests true false p q r = absurd (false≢true (ap is_some r))
  by_tests false true p q r = absurd (false≢true (ap is_some r))
  by_tests false false p q r = absurd (false≢true (ap is_some r))
in_range a (negsuc i) k e = absurd (false≢true (ap is_some e))

cell_word : (o : Object) (xs : List ℕ) (c : Option ℕ) (b : Bits) (y : ℕ) → ((k : ℕ) → c ≡ Some k → k < word_count o) → IsValueOf o (words xs) → IsValueOf o (written_cell o (words xs) (cell_at c) b y)
cell_word o xs None b y l h = h
cell_word o xs (Some k) b y l h = (h.0, words_fit (word_count o) (object_width o) xs k (with_bits (object_width o) (slice_index xs k) b y) (l k refl) (bits_fit (object_width o) (slice_index xs k) b y) h.1)

number_below : (o : Object) (z : ℤ) (k : ℕ) → option_and_then (λ a. word_number a z) o.addresses ≡ Some k → k < word_count o
number_below o z k e = there o.addresses e where
  there : (q : Option (ℕ × ℕ)) → option_and_then (λ a. word_number a z) q ≡ Some k → k < words_between q
  there None e = absurd (false≢true (ap is_some e))
  there (Some a) e = in_range a z k e

-- a memory keeps its shape, and a net its width
pub memory_fits : (o : Object) (v : Value) (z : ℤ) (b : Bits) (y : ℕ) → is_memory o ≡ true → IsValueOf o v → IsValueOf o (written_cell o v (indexed_cell o z) b y)
memory_fits o (words xs) z b y m h = cell_word o xs (option_and_then (λ a. word_number a z) o.addresses) b y (number_below o z) h
memory_fits o (number x) z b y m h = absurd (false≢true (sym (ap not m) ∙ h.0))
memory_fits o (truth_value t) z b y m h = absurd h

pub number_fits : (o : Object) (v : Value) (b : Bits) (y : ℕ) → is_memory o ≡ false → IsValueOf o v → IsValueOf o (written_cell o v variable_cell b y)
number_fits o v b y m h = (ap not m, bits_fit (object_width o) (as_number v) b y)
