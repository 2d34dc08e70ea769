-- The bits of masks that are moved, cut and put beside one another.
use Rattle.std.proofs.Common.{◌≡◌, ◌∙◌, ◌≢◌, ℕ, ◌+◌, ◌-◌, ◌*◌, ◌/◌, ◌%◌, ◌^◌, ◌<◌, ◌≤◌, refl, ap, sym, Bool, true, false, cond, not, inl, inr, arith, lt-ltb, le-ltb, pow_pos, bit_and, bit_or}
use Rattle.std.specs.Prelude.{◌&&◌, ◌||◌, ◌⊎◌, ◌==◌, nat_lt}
use Rattle.std.specs.Int.{bit_at}
use Rattle.std.proofs.lemmas.Bool.{cases_lt, cases_eq}
use Rattle.std.proofs.lemmas.Bool.Decides.{nat_tests}
use Rattle.std.proofs.lemmas.Nat.Bits.{bit_at-zero, bit_at_cat_low, bit_at_cat_high, bit_at_ones, bit_at_ones_above, bit_at-pow_same, bit_at-pow_other, bit_at_above}
use Rattle.verilog_meaning.specs.Register.{is_set}
use Rattle.verilog_settled.proofs.Bits.{set_from_bit, unset_from_bit, bit_of_cut, bit_past_cut, bit_of_shifted}
use Rattle.v_masks.proofs.Bits.{set-none, set-or, set-and}

-- ---- up and down

raised-bit : (x k j : ℕ) → is_set (x * 2 ^ k) j ≡ (not (nat_lt j k) && is_set x (j - k))
raised-bit x k j = at (cases_lt j k)
  where
    same : x * 2 ^ k ≡ x * 2 ^ k + 0
    same = omega arith

    at : (j < k) ⊎ (k ≤ j) → is_set (x * 2 ^ k) j ≡ (not (nat_lt j k) && is_set x (j - k))
    at (inl l) =
        unset_from_bit (x * 2 ^ k) j (ap (λ n. bit_at n j) same ∙ bit_at_cat_low x k 0 j l ∙ bit_at-zero j)
        ∙ sym (ap (λ t. not t && is_set x (j - k)) (lt-ltb j k l))
    at (inr l) =
        set_from_bit (x * 2 ^ k) x j (j - k) (ap (λ n. bit_at n j) same ∙ bit_at_cat_high x k 0 j (pow_pos k) l)
        ∙ sym (ap (λ t. not t && is_set x (j - k)) (le-ltb j k l))

pub set-raised : (n x k j : ℕ) → j < n → is_set (x * 2 ^ k % 2 ^ n) j ≡ (not (nat_lt j k) && is_set x (j - k))
set-raised n x k j l = set_from_bit (x * 2 ^ k % 2 ^ n) (x * 2 ^ k) j j (bit_of_cut (x * 2 ^ k) n j l) ∙ raised-bit x k j

pub set-lowered : (x k j : ℕ) → is_set (x / 2 ^ k) j ≡ is_set x (j + k)
set-lowered x k j = let e : k + j ≡ j + k = omega arith in set_from_bit (x / 2 ^ k) x j (j + k) (bit_of_shifted x k j ∙ ap (bit_at x) e)

-- all bits are gone
pub far-lowered : (x k j : ℕ) → x < 2 ^ 128 → 128 ≤ k → is_set 0 j ≡ is_set x (j + k)
far-lowered x k j h l = set-none j ∙ sym (unset_from_bit x (j + k) (bit_at_above x 128 (j + k) h (omega (arith, l))))

pub far-raised : (x k j : ℕ) → 128 ≤ k → j < 128 → is_set 0 j ≡ (not (nat_lt j k) && is_set x (j - k))
far-raised x k j h l = let b : j < k = omega (arith, h, l) in set-none j ∙ sym (ap (λ t. not t && is_set x (j - k)) (lt-ltb j k b))

-- ---- cut, and beside one another

ones-bit : (w j : ℕ) → is_set (2 ^ w - 1) j ≡ nat_lt j w
ones-bit w j = at (cases_lt j w)
  where
    at : (j < w) ⊎ (w ≤ j) → is_set (2 ^ w - 1) j ≡ nat_lt j w
    at (inl l) = ap (λ z. z == 1) (bit_at_ones w j l) ∙ sym (lt-ltb j w l)
    at (inr l) = ap (λ z. z == 1) (bit_at_ones_above w j l) ∙ sym (le-ltb j w l)

pub beside : (high low m w j : ℕ) → m ≡ 2 ^ w - 1 → j < 128
    → is_set (bit_or (high * 2 ^ w % 2 ^ 128) (bit_and low m)) j ≡ cond (nat_lt j w) (is_set low j) (is_set high (j - w))
beside high low m w j e l =
    set-or (high * 2 ^ w % 2 ^ 128) (bit_and low m) j
    ∙ ap (λ t. t || is_set (bit_and low m) j) (set-raised 128 high w j l)
    ∙ ap (λ t. (not (nat_lt j w) && is_set high (j - w)) || t) (set-and low m j ∙ ap (λ z. is_set low j && is_set z j) e ∙ ap (λ t. is_set low j && t) (ones-bit w j))
    ∙ at (nat_lt j w) (is_set low j) (is_set high (j - w))
  where
    at : (t a b : Bool) → (not t && b) || (a && t) ≡ cond t a b
    at true true b = refl
    at true false b = refl
    at false true true = refl
    at false true false = refl
    at false false true = refl
    at false false false = refl

pub all-low : (low high j w : ℕ) → j < 128 → 128 ≤ w → is_set low j ≡ cond (nat_lt j w) (is_set low j) (is_set high (j - w))
all-low low high j w l h = let b : j < w = omega (arith, l, h) in sym (ap (λ t. cond t (is_set low j) (is_set high (j - w))) (lt-ltb j w b))

-- ---- one bit

one-bit : (p j : ℕ) → is_set (2 ^ p) j ≡ (j == p)
one-bit p j = at (cases_eq j p)
  where
    at : (j ≡ p) ⊎ (j ≡ p → ⊥) → is_set (2 ^ p) j ≡ (j == p)
    at (inl e) =
        let t : (j == p) ≡ true = grind (arith, nat_tests) in
        ap (is_set (2 ^ p)) e ∙ ap (λ z. z == 1) (bit_at-pow_same p) ∙ sym t
    at (inr n) =
        let m : j ≢ p = n in
        let t : (j == p) ≡ false = grind (arith, nat_tests) in
        ap (λ z. z == 1) (bit_at-pow_other p j m) ∙ sym t

pub with-bit : (x p j : ℕ) → p < 128 → is_set (bit_or x (1 * 2 ^ p % 2 ^ 128)) j ≡ (is_set x j || (j == p))
with-bit x p j h = set-or x (1 * 2 ^ p % 2 ^ 128) j ∙ ap (λ t. is_set x j || t) (at (cases_lt j 128))
  where
    at : (j < 128) ⊎ (128 ≤ j) → is_set (1 * 2 ^ p % 2 ^ 128) j ≡ (j == p)
    at (inl l) =
        let e : 1 * 2 ^ p ≡ 2 ^ p = omega arith in
        set_from_bit (1 * 2 ^ p % 2 ^ 128) (1 * 2 ^ p) j j (bit_of_cut (1 * 2 ^ p) 128 j l) ∙ ap (λ z. is_set z j) e ∙ one-bit p j
    at (inr l) =
        let m : j ≢ p = omega (arith, h, l) in
        let t : (j == p) ≡ false = grind (arith, nat_tests) in
        unset_from_bit (1 * 2 ^ p % 2 ^ 128) j (bit_past_cut (1 * 2 ^ p) 128 j l) ∙ sym t

pub bit-wanted : (x p j : ℕ) (b : Bool) → b ≡ true → p < 128 → is_set (bit_or x (1 * 2 ^ p % 2 ^ 128)) j ≡ (is_set x j || (j == p && b))
bit-wanted x p j b e h = with-bit x p j h ∙ ap (λ t. is_set x j || t) (sym (and_one (j == p)) ∙ ap (λ t. j == p && t) (sym e))
  where
    and_one : (t : Bool) → t && true ≡ t
    and_one true = refl
    and_one false = refl

pub all-set : (n j : ℕ) → j < n → is_set (2 ^ n - 1) j ≡ true
all-set n j l = ones-bit n j ∙ lt-ltb j n l
