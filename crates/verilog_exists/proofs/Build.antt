-- A value of an object with given bits.
use Rattle.std.proofs.Common.{◌≡◌, ℕ, zero, suc, ◌+◌, ◌-◌, ◌*◌, ◌^◌, ◌<◌, ◌≤◌, Bool, true, false, cond, inl, inr, refl, sym, ap, ◌∙◌, subst, List, [], ◌∷◌, length, Option, Some, None, arith, pow_pos}
use Rattle.std.specs.Prelude.{IsTrue, is_some, not, nat_lt, nat_le, slice_index}
use Rattle.std.proofs.lemmas.Bool.{cases_lt, cond-true, cond-false}
use Rattle.std.proofs.Math.Pow.{pow_mono}
use Rattle.std.proofs.lemmas.Bool.Decides.{nat_tests}
use Rattle.wb_values.specs.Value.{Value, number, words}
use Rattle.verilog_meaning.specs.Expression.{Object, object_width, is_memory, bit}
use Rattle.verilog_meaning.specs.Register.{word_count, words_between, is_bit_of, is_set, value_bit}
use Rattle.verilog_meaning.specs.Settled.{IsAddressWidth, AreWords, IsValueOf}
use Rattle.verilog_settled.proofs.Plain.{low_of_two, high_of_two}
use Rattle.verilog_unique.proofs.Options.{both_true}

-- ---- numbers

-- the number whose bit b is f b, below the width
abbrev pub number_of : ℕ → (ℕ → Bool) → ℕ
number_of zero f = 0
number_of (suc w) f = bit (f w) * 2 ^ w + number_of w f

number_below : (w : ℕ) (f : ℕ → Bool) → number_of w f < 2 ^ w
number_below zero f = omega arith
number_below (suc w) f = one (f w) (number_of w f) (number_below w f)
  where
    one : (c : Bool) (r : ℕ) → r < 2 ^ w → bit c * 2 ^ w + r < 2 ^ suc w
    one true r l = omega (arith, l)
    one false r l = omega (arith, l)

one_bit : (c : Bool) → is_set (bit c) 0 ≡ c
one_bit true = refl
one_bit false = refl

number_bit : (w : ℕ) (f : ℕ → Bool) (b : ℕ) → b < w → is_set (number_of w f) b ≡ f b
number_bit zero f b l = absurd (omega (arith, l))
number_bit (suc w) f b l =
    elim (cases_lt b w) as (λ _. is_set (number_of (suc w) f) b ≡ f b) [
      | inl k ↦ low_of_two (bit (f w)) w (number_of w f) b k ∙ number_bit w f b k
      | inr k ↦ let e : b ≡ w = omega (arith, l, k) in let z : b - w ≡ 0 = omega (arith, k, l) in
          high_of_two (bit (f w)) w (number_of w f) b (number_below w f) k ∙ ap (is_set (bit (f w))) z ∙ one_bit (f w) ∙ ap f (sym e)
    ]

-- ---- lists

abbrev pub list_of : ℕ → (ℕ → ℕ) → List ℕ
list_of zero f = []
list_of (suc n) f = f 0 ∷ list_of n (λ k. f (suc k))

list_length : (n : ℕ) (f : ℕ → ℕ) → length (list_of n f) ≡ n
list_length zero f = refl
list_length (suc n) f = ap suc (list_length n (λ k. f (suc k)))

list_at : (n : ℕ) (f : ℕ → ℕ) (k : ℕ) → k < n → slice_index (list_of n f) k ≡ f k
list_at zero f k l = absurd (omega (arith, l))
list_at (suc n) f zero l = refl
list_at (suc n) f (suc k) l = list_at n (λ i. f (suc i)) k (omega (arith, l))

list_past : (n : ℕ) (f : ℕ → ℕ) (k : ℕ) → n ≤ k → slice_index (list_of n f) k ≡ 0
list_past zero f k l = refl
list_past (suc n) f zero l = absurd (omega (arith, l))
list_past (suc n) f (suc k) l = list_past n (λ i. f (suc i)) k (omega (arith, l))

-- ---- how many bits an address has

abbrev wider_by : Bool → ℕ → ℕ
wider_by true a = a
wider_by false a = suc a

abbrev address_bits : ℕ → ℕ
address_bits zero = 1
address_bits (suc n) = wider_by (nat_le (suc n) (2 ^ address_bits n)) (address_bits n)

is_address_bits : (n : ℕ) → IsAddressWidth n (address_bits n)
is_address_bits zero = record { at_least_one = omega arith; enough = omega arith; least = λ b l m. l }
is_address_bits (suc n) = one (address_bits n) (is_address_bits n) (nat_le (suc n) (2 ^ address_bits n)) refl
  where
    one : (a : ℕ) → IsAddressWidth n a → (t : Bool) → nat_le (suc n) (2 ^ a) ≡ t → IsAddressWidth (suc n) (wider_by t a)
    one a h true e =
        record {
          at_least_one = h.at_least_one;
          enough = grind (arith, nat_tests, e);
          least = λ b l m. h.least b l (omega (arith, m));
        }
    one a h false e =
        let more : 2 ^ a < suc n = grind (arith, nat_tests, e) in
        let low = h.at_least_one in
        let full = h.enough in
        let positive : 0 < 2 ^ a = pow_pos a in
        let all : suc n ≤ 2 ^ suc a = omega (arith, full, positive) in
        record {
          at_least_one = omega (arith, low);
          enough = all;
          least = λ b l m. above a b (omega (arith, m, more));
        }
      where
        above : (x y : ℕ) → 2 ^ x < 2 ^ y → suc x ≤ y
        above x y l = elim (cases_lt x y) as (λ _. suc x ≤ y) [ inl k ↦ omega (arith, k) | inr k ↦ absurd (less x y k l) ]
          where
            less : (i j : ℕ) → j ≤ i → 2 ^ i < 2 ^ j → ⊥
            less i j k m = let g : 2 ^ j ≤ 2 ^ i = pow_mono k in omega (arith, g, m)

-- ---- values

abbrev word_at : Object → (ℕ → ℕ → Bool) → ℕ → ℕ
word_at o f k = cond (nat_lt k (word_count o)) (number_of (object_width o) (f k)) 0

-- the value of an object whose bit b of word k is f k b, in range
pub built : Object → (ℕ → ℕ → Bool) → Value
built o f =
    cond (is_memory o) (words (list_of (2 ^ address_bits (word_count o)) (word_at o f))) (number (number_of (object_width o) (f 0)))

words_fit : (o : Object) (f : ℕ → ℕ → Bool) → AreWords (word_count o) (object_width o) (list_of (2 ^ address_bits (word_count o)) (word_at o f))
words_fit o f =
    record {
      address_width = address_bits (word_count o);
      is_address_width = is_address_bits (word_count o);
      all = list_length (2 ^ address_bits (word_count o)) (word_at o f);
      narrow = λ k. elim (cases_lt k (2 ^ address_bits (word_count o))) as (λ _. slice_index xs k < 2 ^ object_width o) [
        | inl l ↦ subst (λ x. x < 2 ^ object_width o) (sym (list_at (2 ^ address_bits (word_count o)) (word_at o f) k l)) (below k (nat_lt k (word_count o)))
        | inr l ↦ subst (λ x. x < 2 ^ object_width o) (sym (list_past (2 ^ address_bits (word_count o)) (word_at o f) k l)) (pow_pos (object_width o))
      ];
      past = λ k m. elim (cases_lt k (2 ^ address_bits (word_count o))) as (λ _. slice_index xs k ≡ 0) [
        | inl l ↦ list_at (2 ^ address_bits (word_count o)) (word_at o f) k l
            ∙ cond-false (nat_lt k (word_count o)) (number_of (object_width o) (f k)) 0 (not_less k m)
        | inr l ↦ list_past (2 ^ address_bits (word_count o)) (word_at o f) k l
      ];
    }
  where
    xs : List ℕ
    xs = list_of (2 ^ address_bits (word_count o)) (word_at o f)

    below : (k : ℕ) (t : Bool) → cond t (number_of (object_width o) (f k)) 0 < 2 ^ object_width o
    below k true = number_below (object_width o) (f k)
    below k false = pow_pos (object_width o)

    not_less : (k : ℕ) → word_count o ≤ k → nat_lt k (word_count o) ≡ false
    not_less k m = grind (arith, nat_tests, m)

pub built_fits : (o : Object) (f : ℕ → ℕ → Bool) → IsValueOf o (built o f)
unfolding built
built_fits o f = one (is_memory o) refl
  where
    one : (t : Bool) → is_memory o ≡ t
        → IsValueOf o (cond t (words (list_of (2 ^ address_bits (word_count o)) (word_at o f))) (number (number_of (object_width o) (f 0))))
    one true e = (e, words_fit o f)
    one false e = (ap not e, number_below (object_width o) (f 0))

pub built_bit : (o : Object) (f : ℕ → ℕ → Bool) (k b : ℕ) → IsTrue (is_bit_of o k b) → value_bit (built o f) k b ≡ f k b
unfolding built
built_bit o f k b t = one (is_memory o) refl
  where
    both : IsTrue (nat_lt k (word_count o)) × IsTrue (nat_lt b (object_width o))
    both = both_true (nat_lt k (word_count o)) (nat_lt b (object_width o)) t

    less : k < word_count o
    less = let h = both.0 in grind (arith, nat_tests, h)

    low : b < object_width o
    low = let h = both.1 in grind (arith, nat_tests, h)

    scalar : (a : Option (ℕ × ℕ)) → is_some a ≡ false → k < words_between a → k ≡ 0
    scalar None e l = omega (arith, l)
    scalar (Some x) e l = cc

    number_at : (i : ℕ) → i ≡ 0 → value_bit (number (number_of (object_width o) (f 0))) i b ≡ f i b
    number_at i e =
        subst (λ j. value_bit (number (number_of (object_width o) (f 0))) j b ≡ f j b) (sym e) (number_bit (object_width o) (f 0) b low)

    one : (m : Bool) → is_memory o ≡ m
        → value_bit (cond m (words (list_of (2 ^ address_bits (word_count o)) (word_at o f))) (number (number_of (object_width o) (f 0)))) k b ≡ f k b
    one true e =
        let enough = (is_address_bits (word_count o)).enough in
        ap (λ x. is_set x b) (list_at (2 ^ address_bits (word_count o)) (word_at o f) k (omega (arith, less, enough))
        ∙ cond-true (nat_lt k (word_count o)) (number_of (object_width o) (f k)) 0 both.0)
        ∙ number_bit (object_width o) (f k) b low
    one false e = number_at k (scalar o.addresses e less)
