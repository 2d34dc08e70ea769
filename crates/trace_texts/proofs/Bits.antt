-- Numbers with a bit that is set.
use Rattle.std.proofs.Common.{◌≡◌, ◌∙◌, ℕ, zero, suc, ◌/◌, ◌%◌, ◌<◌, ◌≤◌, ap, sym, Bool, true, false, ◌⊎◌, inl, inr, List, [], ◌∷◌, slice_index, refl, arith}
use Rattle.std.specs.Prelude.{◌==◌, ◌||◌, nat_lt}
use Rattle.std.proofs.lemmas.Nat.Bits.{bit_at-zero, bit_at_lowest, bit_at-suc}
use Rattle.std.proofs.lemmas.Bool.{cases_lt, false≢true}
use Rattle.std.proofs.lemmas.Bool.Decides.{nat_tests}
use Rattle.verilog_meaning.specs.Register.{is_set}
use Rattle.trace_texts.specs.Order.{has_set}

none_set : (b : ℕ) → is_set 0 b ≡ false
none_set b = ap (λ x. x == 1) (bit_at-zero b)

halved : (n x : ℕ) → x ≤ suc n → x / 2 ≤ n
halved n x h = omega (arith, h)

some_bit : (n x : ℕ) → x ≤ n → 0 < x → (b : ℕ) × (is_set x b ≡ true)
some_bit zero x h g = absurd (omega (arith, h, g))
some_bit (suc n) x h g = at (cases_lt (x % 2) 1) (cases_lt 0 (x / 2)) (some_bit n (x / 2) (halved n x h))
  where
    at : (x % 2 < 1) ⊎ (1 ≤ x % 2) → (0 < x / 2) ⊎ (x / 2 ≤ 0) → (0 < x / 2 → (b : ℕ) × (is_set (x / 2) b ≡ true)) → (b : ℕ) × (is_set x b ≡ true)
    at (inr o) m f = let odd : x % 2 ≡ 1 = omega (arith, o) in (0, ap (λ z. z == 1) (bit_at_lowest x ∙ odd))
    at (inl e) (inl m) f = let r = f m in (suc r.0, ap (λ z. z == 1) (bit_at-suc x r.0) ∙ r.1)
    at (inl e) (inr m) f = absurd (omega (arith, e, m, g))

at_most : (x : ℕ) → x ≤ x
at_most x = omega arith

above : (x : ℕ) → nat_lt 0 x ≡ true → 0 < x
above x h = grind (arith, nat_tests)

-- among numbers of which one is not 0 some bit is set
pub set_there : (xs : List ℕ) → has_set xs ≡ true → (k : ℕ) × (b : ℕ) × (is_set (slice_index xs k) b ≡ true)
set_there [] h = absurd (false≢true h)
set_there (x ∷ xs) h = by (nat_lt 0 x) refl h (set_there xs)
  where
    by : (t : Bool) → nat_lt 0 x ≡ t → ◌≡◌ {A = Bool} (t || has_set xs) true → (has_set xs ≡ true → (k : ℕ) × (b : ℕ) × (is_set (slice_index xs k) b ≡ true))
        → (k : ℕ) × (b : ℕ) × (is_set (slice_index (x ∷ xs) k) b ≡ true)
    by true e g f = let r = some_bit x x (at_most x) (above x e) in (0, r.0, r.1)
    by false e g f = let r = f g in (suc r.0, r.1, r.2)

not_none : (x b : ℕ) → is_set x b ≡ true → nat_lt 0 x ≡ true
not_none zero b h = absurd (false≢true (sym (none_set b) ∙ h))
not_none (suc x) b h = grind (arith, nat_tests)

-- and where some bit is set one of them is not 0
pub there_set : (xs : List ℕ) (k b : ℕ) → is_set (slice_index xs k) b ≡ true → has_set xs ≡ true
there_set [] k b h = absurd (false≢true (sym (none_set b) ∙ h))
there_set (x ∷ xs) zero b h = ap (λ t. t || has_set xs) (not_none x b h)
there_set (x ∷ xs) (suc k) b h = by (nat_lt 0 x) (there_set xs k b h)
  where
    by : (t : Bool) → has_set xs ≡ true → ◌≡◌ {A = Bool} (t || has_set xs) true
    by true g = refl
    by false g = g
