-- Values at the places of parts, and the bits of a name that an assignment sets.
use Rattle.std.proofs.Common.{◌≡◌, ◌∙◌, ℕ, ◌+◌, ◌-◌, ◌%◌, ◌^◌, ◌<◌, ◌≤◌, refl, ap, sym, Bool, true, false, cond, not, inl, inr, arith, lt-ltb, le-ltb, bit_and, bit_or}
use Rattle.std.specs.Prelude.{◌&&◌, ◌||◌, ◌⊎◌, ◌==◌, nat_lt, nat_eq, pos, negsuc, ◌-ℤ◌}
use Rattle.std.specs.Int.{bit_at, bit_not, w128}
use Rattle.std.proofs.lemmas.Nat.{and_mask}
use Rattle.std.proofs.lemmas.Nat.Bits.{bit_at-lt, bit_at_not}
use Rattle.std.proofs.lemmas.Bool.{cases_lt, false≢true}
use Rattle.std.proofs.lemmas.Int.{ints}
use Rattle.std.proofs.lemmas.Bool.Decides.{nat_tests}
use Rattle.verilog_meaning.specs.Expression.{is_nonzero}
use Rattle.verilog_meaning.specs.Register.{is_set}
use Rattle.verilog_designs.specs.Dependence.{natural_in}
use Rattle.v_masks.proofs.Bits.{set-or, set-and, set-without}
use Rattle.v_depend.specs.Copying.{at_place}
use Rattle.v_depend.proofs.Shifts.{far-lowered}

-- ---- a value at the places of a part: m is the magnitude of an integer, k stands below it

is-false : (b : Bool) → not b ≡ true → b ≡ false
is-false true h = absurd (false≢true h)
is-false false h = refl

is-true : (b : Bool) → not b ≡ false → b ≡ true
is-true true h = refl
is-true false h = absurd (false≢true (sym h))

pub moved-up : (v m k r b : ℕ) (negative : Bool) → not negative ≡ true → k ≤ m → is_set r b ≡ (not (nat_lt b (m - k)) && is_set v (b - (m - k)))
    → is_set r b ≡ at_place v (natural_in (pos b -ℤ (cond negative (negsuc m) (pos m) -ℤ pos k)))
moved-up v m k r b negative n l h =
    h ∙ at (cases_lt b (m - k)) ∙ sym (ap (λ t. at_place v (natural_in (pos b -ℤ (cond t (negsuc m) (pos m) -ℤ pos k)))) (is-false negative n))
  where
    at : (b < m - k) ⊎ (m - k ≤ b) → (not (nat_lt b (m - k)) && is_set v (b - (m - k))) ≡ at_place v (natural_in (pos b -ℤ (pos m -ℤ pos k)))
    at (inl g) =
        let e : pos b -ℤ (pos m -ℤ pos k) ≡ negsuc (m - k - b - 1) = omega (arith, ints, l, g) in
        ap (λ t. not t && is_set v (b - (m - k))) (lt-ltb b (m - k) g) ∙ sym (ap (λ z. at_place v (natural_in z)) e)
    at (inr g) =
        let e : pos b -ℤ (pos m -ℤ pos k) ≡ pos (b - (m - k)) = omega (arith, ints, l, g) in
        ap (λ t. not t && is_set v (b - (m - k))) (le-ltb b (m - k) g) ∙ sym (ap (λ z. at_place v (natural_in z)) e)

pub moved-down : (v m k r b : ℕ) (negative : Bool) → not negative ≡ true → m < k → is_set r b ≡ is_set v (b + (k - m))
    → is_set r b ≡ at_place v (natural_in (pos b -ℤ (cond negative (negsuc m) (pos m) -ℤ pos k)))
moved-down v m k r b negative n l h =
    let e : pos b -ℤ (pos m -ℤ pos k) ≡ pos (b + (k - m)) = omega (arith, ints, l) in
    h ∙ sym (ap (λ z. at_place v (natural_in z)) e) ∙ sym (ap (λ t. at_place v (natural_in (pos b -ℤ (cond t (negsuc m) (pos m) -ℤ pos k)))) (is-false negative n))

pub moved-far : (v m k r b : ℕ) (negative : Bool) → not negative ≡ false → is_set r b ≡ is_set v (b + (m + k + 1))
    → is_set r b ≡ at_place v (natural_in (pos b -ℤ (cond negative (negsuc m) (pos m) -ℤ pos k)))
moved-far v m k r b negative n h =
    let e : pos b -ℤ (negsuc m -ℤ pos k) ≡ pos (b + (m + k + 1)) = omega (arith, ints) in
    h ∙ sym (ap (λ z. at_place v (natural_in z)) e) ∙ sym (ap (λ t. at_place v (natural_in (pos b -ℤ (cond t (negsuc m) (pos m) -ℤ pos k)))) (is-true negative n))

pub moved-out : (v m k b : ℕ) (negative : Bool) → not negative ≡ false → v < 2 ^ 128 → 128 ≤ m
    → is_set 0 b ≡ at_place v (natural_in (pos b -ℤ (cond negative (negsuc m) (pos m) -ℤ pos k)))
moved-out v m k b negative n h l = moved-far v m k 0 b negative n (far-lowered v (m + k + 1) b h (omega (arith, l)))

-- ---- what is set

pub set-by-index : (p s r b : ℕ) (a i w : Bool) → is_set p b ≡ a → i ≡ true
    → is_set (bit_or (bit_and p s) r) b ≡ ((is_set s b && a) || (is_set r b && (i || (not (is_set s b) && w))))
set-by-index p s r b a i w e h =
    set-or (bit_and p s) r b ∙ ap (λ t. t || is_set r b) (set-and p s b) ∙ ap (λ t. (t && is_set s b) || is_set r b) e
    ∙ at a (is_set s b) (is_set r b) ∙ sym (ap (λ t. (is_set s b && a) || (is_set r b && (t || (not (is_set s b) && w)))) h)
  where
    at : (a s r : Bool) → (a && s) || r ≡ (s && a) || (r && true)
    at true true r = refl
    at true false true = refl
    at true false false = refl
    at false true true = refl
    at false true false = refl
    at false false true = refl
    at false false false = refl

pub set-anywhere : (p s r b : ℕ) (a i w : Bool) → is_set p b ≡ a → i ≡ false → w ≡ true → r < 2 ^ 128 → s < 2 ^ 128
    → is_set (bit_or (bit_and p s) (bit_and r (bit_not w128 s))) b ≡ ((is_set s b && a) || (is_set r b && (i || (not (is_set s b) && w))))
set-anywhere p s r b a i w e h g k l =
    set-or (bit_and p s) (bit_and r (bit_not w128 s)) b ∙ ap (λ t. t || is_set (bit_and r (bit_not w128 s)) b) (set-and p s b)
    ∙ ap (λ t. (is_set p b && is_set s b) || t) (set-without r s b k l) ∙ ap (λ t. (t && is_set s b) || (is_set r b && not (is_set s b))) e
    ∙ at a (is_set s b) (is_set r b) ∙ sym (ap (λ t. (is_set s b && a) || (is_set r b && (t || (not (is_set s b) && w)))) h ∙ ap (λ t. (is_set s b && a) || (is_set r b && (not (is_set s b) && t))) g)
  where
    at : (a s r : Bool) → (a && s) || (r && not s) ≡ (s && a) || (r && (not s && true))
    at true true r = refl
    at true false true = refl
    at true false false = refl
    at false true true = refl
    at false true false = refl
    at false false true = refl
    at false false false = refl

pub set-at-places : (p s r b : ℕ) (a i w : Bool) → is_set p b ≡ a → i ≡ false → w ≡ false
    → is_set (bit_and p s) b ≡ ((is_set s b && a) || (is_set r b && (i || (not (is_set s b) && w))))
set-at-places p s r b a i w e h g =
    set-and p s b ∙ ap (λ t. t && is_set s b) e ∙ at a (is_set s b) (is_set r b)
    ∙ sym (ap (λ t. (is_set s b && a) || (is_set r b && (t || (not (is_set s b) && w)))) h ∙ ap (λ t. (is_set s b && a) || (is_set r b && (not (is_set s b) && t))) g)
  where
    at : (a s r : Bool) → (a && s) ≡ (s && a) || (r && (not s && false))
    at true true r = refl
    at true false true = refl
    at true false false = refl
    at false true true = refl
    at false true false = refl
    at false false true = refl
    at false false false = refl

pub some-bits : (v m w : ℕ) → m ≡ 2 ^ w - 1 → not (nat_eq (bit_and v m) 0) ≡ is_nonzero (v % 2 ^ w)
some-bits v m w e = ap (λ z. not (nat_eq (bit_and v z) 0)) e ∙ ap (λ z. not (nat_eq z 0)) (and_mask v w) ∙ at (v % 2 ^ w)
  where
    at : (x : ℕ) → not (nat_eq x 0) ≡ is_nonzero x
    at x = grind (arith, nat_tests)

-- the bits that a complement has
other-bit : (q : ℕ) → q < 2 → (1 - q == 1) ≡ not (q == 1)
other-bit q h = grind (arith, nat_tests)

pub set-not : (y b : ℕ) → y < 2 ^ 128 → b < 128 → is_set (bit_not w128 y) b ≡ not (is_set y b)
set-not y b h l = ap (λ z. z == 1) (bit_at_not w128 y b h l) ∙ other-bit (bit_at y b) (bit_at-lt y b)
