-- Numbers that keep to a mask.
use Rattle.std.proofs.Common.{◌≡◌, ◌∙◌, ℕ, ◌^◌, ◌<◌, ◌≤◌, ◌/◌, ◌%◌, Bool, true, false, ◌&&◌, ◌==◌, sym, refl, ap, subst, arith, min, bit_and, true≢false, ◌⊎◌, inl, inr, mod-lt, pow_pos}
use Rattle.std.specs.Int.{bit_at}
use Rattle.std.proofs.lemmas.Bool.{and_parts, cases_lt}
use Rattle.std.proofs.lemmas.Bool.Decides.{nat_tests}
use Rattle.std.proofs.lemmas.Nat.{and_le_r, shr_split}
use Rattle.std.proofs.lemmas.Nat.Bits.{bit_at-lt, bit_at_and, bit_at_above, bit_at-zero, bit_at_cat_low, same_from_bits}
use Rattle.verilog_meaning.specs.Register.{is_set}

bit_from_set : (m n : ℕ) → m < 2 → n < 2 → (m == 1) ≡ (n == 1) → m ≡ n
bit_from_set m n p q e = grind (arith, nat_tests)

same_numbers : (x y : ℕ) → ((b : ℕ) → is_set x b ≡ is_set y b) → x ≡ y
same_numbers x y h = same_from_bits x y (λ b. bit_from_set (bit_at x b) (bit_at y b) (bit_at-lt x b) (bit_at-lt y b) (h b))

least : (p q : ℕ) → p < 2 → q < 2 → (min p q == 1) ≡ ((p == 1) && (q == 1))
least p q h g = grind (arith, nat_tests)

set_and : (x y b : ℕ) → is_set (bit_and x y) b ≡ (is_set x b && is_set y b)
set_and x y b = ap (λ z. z == 1) (bit_at_and x y b) ∙ least (bit_at x b) (bit_at y b) (bit_at-lt x b) (bit_at-lt y b)

pub none_set : (b : ℕ) → is_set 0 b ≡ false
none_set b = ap (λ x. x == 1) (bit_at-zero b)

same_number : (x y : ℕ) → (x == y) ≡ true → x ≡ y
same_number x y h = grind (arith, nat_tests)

itself : (x y : ℕ) → x ≡ y → (x == y) ≡ true
itself x y h = grind (arith, nat_tests)

within_mask : (x m : ℕ) → (bit_and x m == x) ≡ true → (b : ℕ) → is_set x b ≡ true → is_set m b ≡ true
within_mask x m h b s =
    let same = same_number (bit_and x m) x h in
    (and_parts (is_set x b) (is_set m b) (sym (set_and x m b) ∙ ap (λ y. is_set y b) same ∙ s)).1

-- what the mask lacks is 0
pub unset_there : (x m : ℕ) → (bit_and x m == x) ≡ true → (b : ℕ) → is_set m b ≡ false → is_set x b ≡ false
unset_there x m h b u = by (is_set x b) refl
  where
    by : (t : Bool) → is_set x b ≡ t → is_set x b ≡ false
    by true e = absurd (true≢false (sym (within_mask x m h b e) ∙ u))
    by false e = e

pub keeps : (x m : ℕ) → ((b : ℕ) → is_set m b ≡ false → is_set x b ≡ false) → (bit_and x m == x) ≡ true
keeps x m h = itself (bit_and x m) x (same_numbers (bit_and x m) x (λ b. set_and x m b ∙ one b (is_set m b) (is_set x b) refl refl))
  where
    one : (b : ℕ) (s t : Bool) → is_set m b ≡ s → is_set x b ≡ t → (t && s) ≡ t
    one b true true e f = refl
    one b true false e f = refl
    one b false true e f = sym (h b e) ∙ f
    one b false false e f = refl

pub kept_below : (x m w : ℕ) → (bit_and x m == x) ≡ true → m < 2 ^ w → x < 2 ^ w
kept_below x m w h l = let same = same_number (bit_and x m) x h in omega (arith, and_le_r x m, same, l)

-- a number whose bits lie below w is below 2^w
below_from_bits : (w x : ℕ) → ((b : ℕ) → is_set x b ≡ true → b < w) → x < 2 ^ w
below_from_bits w x h = subst (λ y. y < 2 ^ w) (same_numbers (x % 2 ^ w) x (λ b. one b (cases_lt b w))) (mod-lt x (pow_pos w))
  where
    unset : (b : ℕ) → (b < w → ⊥) → (t : Bool) → is_set x b ≡ t → t ≡ false
    unset b n true e = absurd (n (h b e))
    unset b n false e = refl

    one : (b : ℕ) → (b < w) ⊎ (w ≤ b) → is_set (x % 2 ^ w) b ≡ is_set x b
    one b (inl l) = ap (λ z. z == 1) (sym (bit_at_cat_low (x / 2 ^ w) w (x % 2 ^ w) b l) ∙ ap (λ y. bit_at y b) (shr_split x w))
    one b (inr g) =
        ap (λ z. z == 1) (bit_at_above (x % 2 ^ w) w b (mod-lt x (pow_pos w)) g) ∙ sym (unset b (λ l. omega (arith, l, g)) (is_set x b) refl)

pub below_from_mask : (w x m : ℕ) → (bit_and x m == x) ≡ true → ((b : ℕ) → is_set m b ≡ true → b < w) → x < 2 ^ w
below_from_mask w x m h f = below_from_bits w x (λ b t. f b (within_mask x m h b t))
