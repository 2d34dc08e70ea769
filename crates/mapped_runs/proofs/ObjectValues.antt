-- Values of nets, variables and memories, and values of sorts.
use Rattle.std.proofs.Common.{◌≡◌, ◌∙◌, ℕ, zero, suc, ◌^◌, ◌<◌, ◌≤◌, Bool, true, false, not, ◌==◌, nat_lt, nat_le, List, [], ◌∷◌, length, slice_index, map, inl, inr, refl, sym, ap, subst, arith, pow_pos, pow_mono, le_antisymm}
use Rattle.std.specs.Int.{bit_at}
use Rattle.std.proofs.lemmas.Bool.{and_parts, and_from, false≢true, cases_lt}
use Rattle.std.proofs.lemmas.Bool.Decides.{nat_tests}
use Rattle.std.proofs.lemmas.List.{length-map}
use Rattle.std.proofs.lemmas.Nat.Bits.{bit_at-lt, bit_at-zero, same_from_bits}
use Rattle.wb_values.specs.Value.{Sort, truth, word, memory, Value, truth_value, number, words, all_below, HasSort}
use Rattle.verilog_meaning.specs.Expression.{Object, object_width, is_memory}
use Rattle.verilog_meaning.specs.Register.{word_count, is_set, value_bit}
use Rattle.verilog_meaning.specs.Settled.{IsAddressWidth, IsValueOf}
use Rattle.v_design.specs.Design.{IsSortOf}

-- ---- numbers and words

bit_from_set : (m n : ℕ) → m < 2 → n < 2 → (m == 1) ≡ (n == 1) → m ≡ n
bit_from_set m n p q e = grind (arith, nat_tests)

pub same_numbers : (x y : ℕ) → ((b : ℕ) → is_set x b ≡ is_set y b) → x ≡ y
same_numbers x y h = same_from_bits x y (λ b. bit_from_set (bit_at x b) (bit_at y b) (bit_at-lt x b) (bit_at-lt y b) (h b))

pub set-none : (b : ℕ) → is_set 0 b ≡ false
set-none b = ap (λ x. x == 1) (bit_at-zero b)

same_number : (x y : ℕ) → (x == y) ≡ true → x ≡ y
same_number x y h = grind (arith, nat_tests)

itself : (x y : ℕ) → x ≡ y → (x == y) ≡ true
itself x y h = grind (arith, nat_tests)

less_test : (x y : ℕ) → x < y → nat_lt x y ≡ true
less_test x y g = grind (arith, nat_tests)

less_from : (x y : ℕ) → nat_lt x y ≡ true → x < y
less_from x y h = grind (arith, nat_tests)

same_words : (xs ys : List ℕ) → length xs ≡ length ys → ((k : ℕ) → slice_index xs k ≡ slice_index ys k) → xs ≡ ys
same_words [] [] e h = refl
same_words [] (y ∷ ys) e h = absurd (omega (arith, e))
same_words (x ∷ xs) [] e h = absurd (omega (arith, e))
same_words (x ∷ xs) (y ∷ ys) e h = let here = h 0 in let there = same_words xs ys (omega (arith, e)) (λ k. h (suc k)) in λ i. here i ∷ there i

below_from_words : (w : ℕ) (xs : List ℕ) → ((k : ℕ) → slice_index xs k < 2 ^ w) → all_below w xs ≡ true
below_from_words w [] h = refl
below_from_words w (x ∷ xs) h = and_from _ _ (less_test x (2 ^ w) (h 0)) (below_from_words w xs (λ k. h (suc k)))

words_below : (w : ℕ) (xs : List ℕ) (k : ℕ) → all_below w xs ≡ true → 0 < 2 ^ w → slice_index xs k < 2 ^ w
words_below w [] k h p = p
words_below w (x ∷ xs) zero h p = less_from x (2 ^ w) (and_parts (nat_lt x (2 ^ w)) _ h).0
words_below w (x ∷ xs) (suc k) h p = words_below w xs k (and_parts (nat_lt x (2 ^ w)) _ h).1 p

-- ---- how many bits an address has

abbrev wider_by : Bool → ℕ → ℕ
wider_by true a = a
wider_by false a = suc a

abbrev pub address_bits : ℕ → ℕ
address_bits zero = 1
address_bits (suc n) = wider_by (nat_le (suc n) (2 ^ address_bits n)) (address_bits n)

above : (x y : ℕ) → 2 ^ x < 2 ^ y → suc x ≤ y
above x y l = elim (cases_lt x y) as (λ _. suc x ≤ y) [ inl k ↦ omega (arith, k) | inr k ↦ absurd (less x y k l) ]
  where
    less : (i j : ℕ) → j ≤ i → 2 ^ i < 2 ^ j → ⊥
    less i j k m = let g : 2 ^ j ≤ 2 ^ i = pow_mono k in omega (arith, g, m)

wider : (n a : ℕ) → IsAddressWidth n a → (t : Bool) → nat_le (suc n) (2 ^ a) ≡ t → IsAddressWidth (suc n) (wider_by t a)
wider n a h true e =
    record {
      at_least_one = h.at_least_one;
      enough = grind (arith, nat_tests, e);
      least = λ b l m. h.least b l (omega (arith, m));
    }
wider n a h false e =
    let more : 2 ^ a < suc n = grind (arith, nat_tests, e) in
    let low = h.at_least_one in
    let full = h.enough in
    let positive : 0 < 2 ^ a = pow_pos a in
    let all : suc n ≤ 2 ^ suc a = omega (arith, full, positive) in
    record {
      at_least_one = omega (arith, low);
      enough = all;
      least = λ b l m. above a b (omega (arith, m, more));
    }

pub is_address_bits : (n : ℕ) → IsAddressWidth n (address_bits n)
is_address_bits zero = record { at_least_one = omega arith; enough = omega arith; least = λ b l m. l }
is_address_bits (suc n) = wider n (address_bits n) (is_address_bits n) (nat_le (suc n) (2 ^ address_bits n)) refl

same_width : (n a b : ℕ) → IsAddressWidth n a → IsAddressWidth n b → a ≡ b
same_width n a b p q = le_antisymm (p.least b q.at_least_one q.enough) (q.least a p.at_least_one p.enough)

-- ---- values and sorts

pub both_ways : (t : Bool) → t ≡ true → not t ≡ true → ⊥
both_ways true p q = false≢true q
both_ways false p q = false≢true p

-- a value of an object is one of its sort
pub has_sort : (o : Object) (s : Sort) (x : Value) → IsSortOf o s → IsValueOf o x → HasSort x s
has_sort o truth x h v = absurd h
has_sort o (word w) (truth_value b) h v = absurd v
has_sort o (word w) (number n) h v = less_test n (2 ^ w) (subst (λ u. n < 2 ^ u) (sym h.1) v.1)
has_sort o (word w) (words xs) h v = absurd (both_ways (is_memory o) v.0 h.0)
has_sort o (memory a w) (truth_value b) h v = absurd v
has_sort o (memory a w) (number n) h v = absurd (both_ways (is_memory o) h.0 v.0)
has_sort o (memory a w) (words xs) h v =
    let same : v.1.address_width ≡ a = same_width (word_count o) v.1.address_width a v.1.is_address_width h.1 in
    let long : length xs ≡ 2 ^ a = v.1.all ∙ ap (λ b. 2 ^ b) same in
    and_from _ _ (itself (length xs) (2 ^ a) long) (below_from_words w xs (λ k. subst (λ u. slice_index xs k < 2 ^ u) (sym h.2) (v.1.narrow k)))

-- A value of an object's sort is one of the object, where no word past the last has a bit.
pub is_value : (o : Object) (s : Sort) (x : Value) → IsSortOf o s → HasSort x s → ((k b : ℕ) → word_count o ≤ k → value_bit x k b ≡ false) → IsValueOf o x
is_value o truth x h p z = absurd h
is_value o (word w) (truth_value b) h p z = absurd (false≢true p)
is_value o (word w) (words xs) h p z = absurd (false≢true p)
is_value o (word w) (number n) h p z = (h.0, subst (λ u. n < 2 ^ u) h.1 (less_from n (2 ^ w) p))
is_value o (memory a w) (truth_value b) h p z = absurd (false≢true p)
is_value o (memory a w) (number n) h p z = absurd (false≢true p)
is_value o (memory a w) (words xs) h p z =
    let parts = and_parts (length xs == 2 ^ a) (all_below w xs) p in (
      h.0,
      record {
        address_width = a;
        is_address_width = h.1;
        all = same_number (length xs) (2 ^ a) parts.0;
        narrow = λ k. subst (λ u. slice_index xs k < 2 ^ u) h.2 (words_below w xs k parts.1 (pow_pos w));
        past = λ k l. same_numbers (slice_index xs k) 0 (λ b. z k b l ∙ sym (set-none b));
      },
    )

-- Values of an object's sort with the same bits are one.
pub same_value : (o : Object) (s : Sort) (x y : Value) → IsSortOf o s → HasSort x s → HasSort y s → ((k b : ℕ) → value_bit x k b ≡ value_bit y k b) → x ≡ y
same_value o truth x y h p q e = absurd h
same_value o (word w) (truth_value b) y h p q e = absurd (false≢true p)
same_value o (word w) (words xs) y h p q e = absurd (false≢true p)
same_value o (word w) (number m) (truth_value b) h p q e = absurd (false≢true q)
same_value o (word w) (number m) (words ys) h p q e = absurd (false≢true q)
same_value o (word w) (number m) (number n) h p q e = ap number (same_numbers m n (e 0))
same_value o (memory a w) (truth_value b) y h p q e = absurd (false≢true p)
same_value o (memory a w) (number m) y h p q e = absurd (false≢true p)
same_value o (memory a w) (words xs) (truth_value b) h p q e = absurd (false≢true q)
same_value o (memory a w) (words xs) (number n) h p q e = absurd (false≢true q)
same_value o (memory a w) (words xs) (words ys) h p q e =
    let i = same_number (length xs) (2 ^ a) (and_parts (length xs == 2 ^ a) _ p).0 in
    let j = same_number (length ys) (2 ^ a) (and_parts (length ys == 2 ^ a) _ q).0 in
    ap words (same_words xs ys (i ∙ sym j) (λ k. same_numbers (slice_index xs k) (slice_index ys k) (e k)))

-- ---- zeros

abbrev pub zeroed : Value → Value
zeroed (truth_value b) = number 0
zeroed (number n) = number 0
zeroed (words xs) = words (map (λ x. 0) xs)

no_words : (xs : List ℕ) (k : ℕ) → slice_index (map (λ (x : ℕ). 0) xs) k ≡ 0
no_words [] k = refl
no_words (x ∷ xs) zero = refl
no_words (x ∷ xs) (suc k) = no_words xs k

-- with all bits 0 it is a value of the object still
pub zero_fits : (o : Object) (x : Value) → IsValueOf o x → IsValueOf o (zeroed x)
zero_fits o (truth_value b) v = absurd v
zero_fits o (number n) v = (v.0, pow_pos (object_width o))
zero_fits o (words xs) v = (
  v.0,
  record {
    address_width = v.1.address_width;
    is_address_width = v.1.is_address_width;
    all = length-map xs (λ x. 0) ∙ v.1.all;
    narrow = λ k. subst (λ y. y < 2 ^ object_width o) (sym (no_words xs k)) (pow_pos (object_width o));
    past = λ k p. no_words xs k;
  },
)

pub zero_bit : (x : Value) (k b : ℕ) → value_bit (zeroed x) k b ≡ false
zero_bit (truth_value t) zero b = set-none b
zero_bit (truth_value t) (suc k) b = refl
zero_bit (number n) zero b = set-none b
zero_bit (number n) (suc k) b = refl
zero_bit (words xs) k b = ap (λ y. is_set y b) (no_words xs k) ∙ set-none b
