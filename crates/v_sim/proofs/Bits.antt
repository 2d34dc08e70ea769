-- Numbers by their bits, and lists of numbers by their words.
use Rattle.std.proofs.Common.{◌≡◌, ◌∙◌, ℕ, zero, suc, ◌^◌, ◌<◌, ◌≤◌, Bool, true, false, ◌&&◌, ◌==◌, nat_lt, List, [], ◌∷◌, length, slice_index, set, refl, sym, ap, subst, arith, min, bit_and, ◌/◌, ◌%◌, ◌⊎◌, inl, inr, replicate, mod-lt, pow_pos}
use Rattle.std.specs.Int.{bit_at}
use Rattle.std.proofs.lemmas.Bool.{and_parts, and_from, false≢true}
use Rattle.std.proofs.lemmas.Bool.Decides.{nat_tests}
use Rattle.std.proofs.lemmas.Nat.Bits.{bit_at-lt, bit_at_and, bit_at_above, bit_at-zero, bit_at_cat_low, same_from_bits}
use Rattle.std.proofs.lemmas.Nat.{shr_split}
use Rattle.std.proofs.lemmas.Bool.{cases_lt}
use Rattle.verilog_meaning.specs.Register.{is_set}
use Rattle.wb_values.specs.Value.{all_below}

bit_from_set : (m n : ℕ) → m < 2 → n < 2 → (m == 1) ≡ (n == 1) → m ≡ n
bit_from_set m n p q e = grind (arith, nat_tests)

pub same_numbers : (x y : ℕ) → ((b : ℕ) → is_set x b ≡ is_set y b) → x ≡ y
same_numbers x y h = same_from_bits x y (λ b. bit_from_set (bit_at x b) (bit_at y b) (bit_at-lt x b) (bit_at-lt y b) (h b))

least : (p q : ℕ) → p < 2 → q < 2 → (min p q == 1) ≡ ((p == 1) && (q == 1))
least p q h g = grind (arith, nat_tests)

set-and : (x y b : ℕ) → is_set (bit_and x y) b ≡ (is_set x b && is_set y b)
set-and x y b = ap (λ z. z == 1) (bit_at_and x y b) ∙ least (bit_at x b) (bit_at y b) (bit_at-lt x b) (bit_at-lt y b)

pub set-none : (b : ℕ) → is_set 0 b ≡ false
set-none b = ap (λ x. x == 1) (bit_at-zero b)

pub same_number : (x y : ℕ) → (x == y) ≡ true → x ≡ y
same_number x y h = grind (arith, nat_tests)

pub itself : (x y : ℕ) → x ≡ y → (x == y) ≡ true
itself x y h = grind (arith, nat_tests)

-- a number that a mask leaves as it is has the mask's bits alone
pub within_mask : (x m : ℕ) → (bit_and x m == x) ≡ true → (b : ℕ) → is_set x b ≡ true → is_set m b ≡ true
within_mask x m h b s =
    let same = same_number (bit_and x m) x h in
    (and_parts (is_set x b) (is_set m b) (sym (set-and x m b) ∙ ap (λ y. is_set y b) same ∙ s)).1

pub mask_keeps : (x m : ℕ) → ((b : ℕ) → is_set x b ≡ true → is_set m b ≡ true) → bit_and x m ≡ x
mask_keeps x m h = same_numbers (bit_and x m) x (λ b. set-and x m b ∙ one (is_set x b) (is_set m b) (h b))
  where
    one : (s t : Bool) → (s ≡ true → t ≡ true) → (s && t) ≡ s
    one true t f = f refl
    one false t f = refl

-- a number whose bits lie below w is below 2^w
pub below_from_bits : (w x : ℕ) → ((b : ℕ) → is_set x b ≡ true → b < w) → x < 2 ^ w
below_from_bits w x h = subst (λ y. y < 2 ^ w) (same_numbers (x % 2 ^ w) x (λ b. one b (cases_lt b w))) (mod-lt x (pow_pos w))
  where
    unset : (b : ℕ) → (b < w → ⊥) → (t : Bool) → is_set x b ≡ t → t ≡ false
    unset b n true e = absurd (n (h b e))
    unset b n false e = refl

    one : (b : ℕ) → (b < w) ⊎ (w ≤ b) → is_set (x % 2 ^ w) b ≡ is_set x b
    one b (inl l) = ap (λ z. z == 1) (sym (bit_at_cat_low (x / 2 ^ w) w (x % 2 ^ w) b l) ∙ ap (λ y. bit_at y b) (shr_split x w))
    one b (inr g) =
        ap (λ z. z == 1) (bit_at_above (x % 2 ^ w) w b (mod-lt x (pow_pos w)) g) ∙ sym (unset b (λ l. omega (arith, l, g)) (is_set x b) refl)

-- lists of one length with the same words
pub same_words : (xs ys : List ℕ) → length xs ≡ length ys → ((k : ℕ) → slice_index xs k ≡ slice_index ys k) → xs ≡ ys
same_words [] [] e h = refl
same_words [] (y ∷ ys) e h = absurd (omega (arith, e))
same_words (x ∷ xs) [] e h = absurd (omega (arith, e))
same_words (x ∷ xs) (y ∷ ys) e h = let here = h 0 in let there = same_words xs ys (omega (arith, e)) (λ k. h (suc k)) in λ i. here i ∷ there i

pub below_from_words : (w : ℕ) (xs : List ℕ) → ((k : ℕ) → slice_index xs k < 2 ^ w) → all_below w xs ≡ true
below_from_words w [] h = refl
below_from_words w (x ∷ xs) h = and_from _ _ (test x (h 0)) (below_from_words w xs (λ k. h (suc k)))
  where
    test : (y : ℕ) → y < 2 ^ w → nat_lt y (2 ^ w) ≡ true
    test y g = grind (arith, nat_tests)

pub words_below : (w : ℕ) (xs : List ℕ) (k : ℕ) → all_below w xs ≡ true → 0 < 2 ^ w → slice_index xs k < 2 ^ w
words_below w [] k h p = p
words_below w (x ∷ xs) zero h p = test (and_parts (nat_lt x (2 ^ w)) _ h).0
  where
    test : nat_lt x (2 ^ w) ≡ true → x < 2 ^ w
    test g = grind (arith, nat_tests)
words_below w (x ∷ xs) (suc k) h p = words_below w xs k (and_parts (nat_lt x (2 ^ w)) _ h).1 p

pub set_word : (xs : List ℕ) (k x : ℕ) → k < length xs → slice_index (set xs k x) k ≡ x
set_word [] k x h = absurd (omega (arith, h))
set_word (y ∷ xs) zero x h = refl
set_word (y ∷ xs) (suc k) x h = set_word xs k x (omega (arith, h))

pub other_word : (xs : List ℕ) (k j x : ℕ) → (k == j) ≡ false → slice_index (set xs k x) j ≡ slice_index xs j
other_word [] k j x e = refl
other_word (y ∷ xs) zero zero x e = absurd (false≢true (sym e))
other_word (y ∷ xs) zero (suc j) x e = refl
other_word (y ∷ xs) (suc k) zero x e = refl
other_word (y ∷ xs) (suc k) (suc j) x e = other_word xs k j x (shorter k j e)
  where
    shorter : (i l : ℕ) → (suc i == suc l) ≡ false → (i == l) ≡ false
    shorter i l g = grind (arith, nat_tests)

pub zero_words : (n k : ℕ) → slice_index (replicate n 0) k ≡ 0
zero_words zero k = refl
zero_words (suc n) zero = refl
zero_words (suc n) (suc k) = zero_words n k
