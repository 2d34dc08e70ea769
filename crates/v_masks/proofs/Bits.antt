-- The bits of masks that are joined, cut and taken from one another.
use Rattle.std.proofs.Common.{◌≡◌, ◌∙◌, ℕ, zero, suc, ◌-◌, ◌/◌, ◌%◌, ◌^◌, ◌<◌, ◌≤◌, ap, Bool, true, false, not, inl, inr, arith, min, max, bit_and, bit_or}
use Rattle.std.specs.Prelude.{◌&&◌, ◌||◌, ◌==◌, ◌⊎◌}
use Rattle.std.specs.Int.{bit_at, bit_not, w128}
use Rattle.std.proofs.lemmas.Nat.Bits.{bit_at-lt, bit_at-zero, bit_at_lowest, bit_at-suc, bit_at_and, bit_at_or, bit_at_not, bit_at_above}
use Rattle.std.proofs.lemmas.Bool.{cases_lt}
use Rattle.std.proofs.lemmas.Bool.Decides.{nat_tests}
use Rattle.verilog_meaning.specs.Register.{is_set}

-- one bit of two
greatest : (p q : ℕ) → p < 2 → q < 2 → (max p q == 1) ≡ ((p == 1) || (q == 1))
greatest p q h g = grind (arith, nat_tests)

least : (p q : ℕ) → p < 2 → q < 2 → (min p q == 1) ≡ ((p == 1) && (q == 1))
least p q h g = grind (arith, nat_tests)

least-not : (p q : ℕ) → p < 2 → q < 2 → (min p (1 - q) == 1) ≡ ((p == 1) && not (q == 1))
least-not p q h g = grind (arith, nat_tests)

none-left : (p q : ℕ) (b : Bool) → p ≡ 0 → (min p q == 1) ≡ ((p == 1) && b)
none-left p q b e = grind (arith, nat_tests)

pub set-none : (b : ℕ) → is_set 0 b ≡ false
set-none b = ap (λ x. x == 1) (bit_at-zero b)

pub set-or : (x y b : ℕ) → is_set (bit_or x y) b ≡ (is_set x b || is_set y b)
set-or x y b = ap (λ z. z == 1) (bit_at_or x y b) ∙ greatest (bit_at x b) (bit_at y b) (bit_at-lt x b) (bit_at-lt y b)

pub set-and : (x y b : ℕ) → is_set (bit_and x y) b ≡ (is_set x b && is_set y b)
set-and x y b = ap (λ z. z == 1) (bit_at_and x y b) ∙ least (bit_at x b) (bit_at y b) (bit_at-lt x b) (bit_at-lt y b)

pub set-without : (x y b : ℕ) → x < 2 ^ 128 → y < 2 ^ 128 → is_set (bit_and x (bit_not w128 y)) b ≡ (is_set x b && not (is_set y b))
set-without x y b h g = ap (λ z. z == 1) (bit_at_and x (bit_not w128 y) b) ∙ at (cases_lt b 128)
  where
    at : (b < 128) ⊎ (128 ≤ b) → (min (bit_at x b) (bit_at (bit_not w128 y) b) == 1) ≡ (is_set x b && not (is_set y b))
    at (inl l) =
        ap (λ z. min (bit_at x b) z == 1) (bit_at_not w128 y b g l) ∙ least-not (bit_at x b) (bit_at y b) (bit_at-lt x b) (bit_at-lt y b)
    at (inr l) = none-left (bit_at x b) (bit_at (bit_not w128 y) b) (not (is_set y b)) (bit_at_above x 128 b h l)

-- a number with no bit is 0
halved : (n x : ℕ) → x ≤ suc n → x / 2 ≤ n
halved n x h = omega (arith, h)

pub some-bit : (n x : ℕ) → x ≤ n → 0 < x → (b : ℕ) × (is_set x b ≡ true)
some-bit zero x h g = absurd (omega (arith, h, g))
some-bit (suc n) x h g = at (cases_lt (x % 2) 1) (cases_lt 0 (x / 2)) (some-bit n (x / 2) (halved n x h))
  where
    at : (x % 2 < 1) ⊎ (1 ≤ x % 2) → (0 < x / 2) ⊎ (x / 2 ≤ 0) → (0 < x / 2 → (b : ℕ) × (is_set (x / 2) b ≡ true)) → (b : ℕ) × (is_set x b ≡ true)
    at (inr o) m f = let odd : x % 2 ≡ 1 = omega (arith, o) in (0, ap (λ z. z == 1) (bit_at_lowest x ∙ odd))
    at (inl e) (inl m) f = let r = f m in (suc r.0, ap (λ z. z == 1) (bit_at-suc x r.0) ∙ r.1)
    at (inl e) (inr m) f = absurd (omega (arith, e, m, g))
