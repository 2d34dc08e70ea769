-- Tests that are true.
use Rattle.std.proofs.Common.{◌≡◌, ℕ, ◌<◌, ◌≤◌, ◌-◌, ◌^◌, ◌⊎◌, inl, inr, refl, Bool, true, false, not, arith}
use Rattle.std.specs.Prelude.{◌&&◌, ◌||◌, ◌==◌, nat_le, nat_lt}
use Rattle.std.proofs.Math.Pow.{pow_mono}
use Rattle.std.proofs.lemmas.Bool.{false≢true}
use Rattle.std.proofs.lemmas.Bool.Decides.{nat_tests}

pub both_true : (x y : Bool) → x ≡ true → y ≡ true → (x && y) ≡ true
both_true true y e h = h
both_true false y e h = absurd (false≢true e)

pub left_of : (x y : Bool) → (x && y) ≡ true → x ≡ true
left_of true y h = refl
left_of false y h = h

pub right_of : (x y : Bool) → (x && y) ≡ true → y ≡ true
right_of true y h = h
right_of false y h = absurd (false≢true h)

pub either : (x y : Bool) → (x || y) ≡ true → (x ≡ true) ⊎ (y ≡ true)
either true y h = inl refl
either false y h = inr h

pub tests_same : (m n : ℕ) → (m == n) ≡ true → m ≡ n
tests_same m n h = grind (arith, nat_tests)

pub same_tests : (m n : ℕ) → m ≡ n → (m == n) ≡ true
same_tests m n h = grind (arith, nat_tests)

negated : (t : Bool) → not t ≡ true → t ≡ false
negated false h = refl
negated true h = absurd (false≢true h)

pub not_zero : (m : ℕ) → not (m == 0) ≡ true → 0 < m
not_zero m h = let e : (m == 0) ≡ false = negated (m == 0) h in grind (arith, nat_tests)

pub below_is : (m n : ℕ) → nat_lt m n ≡ true → m < n
below_is m n h = grind (arith, nat_tests)

pub is_below : (m n : ℕ) → m < n → nat_lt m n ≡ true
is_below m n h = grind (arith, nat_tests)

pub is_from : (m : ℕ) → nat_le m m ≡ true
is_from m = grind (arith, nat_tests)

pub between : (m n k : ℕ) → nat_le m k ≡ true → nat_lt k n ≡ true → nat_lt m n ≡ true
between m n k h g = grind (arith, nat_tests)

differ_tests : (m n : ℕ) → m < n → (m == n) ≡ false
differ_tests m n h = grind (arith, nat_tests)

-- a number of 32 bits is below 2^a - 1 where a is greater
pub far_below : (a n : ℕ) → 32 < a → n < 2 ^ 32 → (n == 2 ^ a - 1) ≡ false
far_below a n h lt =
    let least : 33 ≤ a = omega (arith, h) in
    let more : 2 ^ 33 ≤ 2 ^ a = pow_mono least in
    let apart : n < 2 ^ a - 1 = omega (arith, more, lt) in
    differ_tests n (2 ^ a - 1) apart

pub above_test : (m n : ℕ) → n < m → nat_le m n ≡ false
above_test m n h = grind (arith, nat_tests)
