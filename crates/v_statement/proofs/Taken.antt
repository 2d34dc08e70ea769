-- The bits that part selects take, and bits that are written from a place downward.
use Rattle.std.proofs.Common.{◌≡◌, ◌<◌, ℕ, ◌+◌, ◌-◌, ◌*◌, ◌/◌, ◌%◌, ◌^◌, ◌∙◌, refl, ap, sym, subst, add-zero, Bool, true, false, cond, not, nat_le, nat_lt, ℤ, pos, negsuc, ◌+ℤ◌, ◌-ℤ◌, arith}
use Rattle.std.proofs.Math.Nat.{mod-one, mod-eq_of_lt, mod-add-div}
use Rattle.std.proofs.lemmas.Bool.{false≢true}
use Rattle.std.proofs.lemmas.Bool.Decides.{nat_tests}
use Rattle.std.proofs.lemmas.Int.{ints}
use Rattle.verilog_meaning.specs.Expression.{Object, place_of_bit, Bits, bits_upward}
use Rattle.verilog_meaning.specs.Statement.{with_bits_from, with_bits_at}

-- where no bits are written
pub none_written : (w old k x : ℕ) → old < 2 ^ w → with_bits_from w old k 0 x ≡ old
none_written w old k x h =
    let none : x % 2 ^ 0 ≡ 0 = mod-one x in
    let sum : old % 2 ^ k + 2 ^ k * (x % 2 ^ 0) + 2 ^ (k + 0) * (old / 2 ^ (k + 0)) ≡ old =
    ap (λ z. old % 2 ^ k + 2 ^ k * z + 2 ^ (k + 0) * (old / 2 ^ (k + 0))) none
    ∙ ap (λ m. old % 2 ^ k + 2 ^ k * 0 + 2 ^ m * (old / 2 ^ m)) (add-zero k)
    ∙ whole (old % 2 ^ k) (2 ^ k) (old / 2 ^ k) old (mod-add-div old (2 ^ k)) in
    ap (λ z. z % 2 ^ w) sum ∙ mod-eq_of_lt h
  where
    whole : (a p q s : ℕ) → a + p * q ≡ s → a + p * 0 + p * q ≡ s
    whole a p q s e = omega (arith, e)

-- bits downward from a place below 0
pub below_zero : (w old r n x : ℕ) → old < 2 ^ w → old ≡ with_bits_at w old (negsuc r -ℤ (pos n -ℤ pos 1)) n x
below_zero w old r n x h = sym (shown (negsuc r -ℤ (pos n -ℤ pos 1)) refl)
  where
    shown : (z : ℤ) → negsuc r -ℤ (pos n -ℤ pos 1) ≡ z → with_bits_at w old z n x ≡ old
    shown (pos k) e =
        let zero_bits : 0 ≡ n = omega (arith, ints, e) in
        subst (λ m. with_bits_from w old k m x ≡ old) zero_bits (none_written w old k x h)
    shown (negsuc k) e =
        let zero_bits : 0 ≡ n - (k + 1) = omega (arith, ints, e) in
        subst (λ m. with_bits_from w old 0 m (x / 2 ^ (k + 1)) ≡ old) zero_bits (none_written w old 0 (x / 2 ^ (k + 1)) h)

-- no bits at all
pub no_bits : (w old : ℕ) (z : ℤ) (x : ℕ) → old < 2 ^ w → old ≡ with_bits_at w old z 0 x
no_bits w old (pos k) x h = sym (none_written w old k x h)
no_bits w old (negsuc k) x h =
    let none : 0 ≡ 0 - (k + 1) = omega arith in
    subst (λ m. old ≡ with_bits_from w old 0 m (x / 2 ^ (k + 1))) none (sym (none_written w old 0 (x / 2 ^ (k + 1)) h))

-- the bits upward from a base, from the base's place on
pub upward_is : (o : Object) (b p : ℤ) (n : ℕ) (d : Bool) → p ≡ place_of_bit o b → nat_le o.right o.left ≡ not d
    → ◌≡◌ {A = Bits} (record { low = cond d (p -ℤ (pos n -ℤ pos 1)) p; count = n }) (bits_upward o b n)
upward_is o b p n true is_p e =
    let low : p -ℤ (pos n -ℤ pos 1) ≡ pos o.right -ℤ (b +ℤ (pos n -ℤ pos 1)) =
    ap (λ q. q -ℤ (pos n -ℤ pos 1)) (is_p ∙ ap (λ t. cond t (b -ℤ pos o.right) (pos o.right -ℤ b)) e) ∙ moved (pos o.right) b (pos n -ℤ pos 1) in
    λ i. record { low = (low ∙ sym (ap (λ t. cond t (place_of_bit o b) (cond t (b +ℤ (pos n -ℤ pos 1) -ℤ pos o.right) (pos o.right -ℤ (b +ℤ (pos n -ℤ pos 1))))) e)) i; count = n }
  where
    moved : (x y z : ℤ) → x -ℤ y -ℤ z ≡ x -ℤ (y +ℤ z)
    moved x y z = omega (arith, ints)
upward_is o b p n false is_p e =
    λ i. record { low = (is_p ∙ sym (ap (λ t. cond t (place_of_bit o b) (place_of_bit o (b +ℤ (pos n -ℤ pos 1)))) e)) i; count = n }

-- what is not written, as the code tests it
pub below_zero_is : (w old : ℕ) (negative : Bool) (r n x : ℕ) → old < 2 ^ w → negative ≡ true
    → old ≡ with_bits_at w old (cond negative (negsuc r) (pos r) -ℤ (pos n -ℤ pos 1)) n x
below_zero_is w old true r n x h is = below_zero w old r n x h
below_zero_is w old false r n x h is = absurd (false≢true is)

pub no_bits_are : (w old : ℕ) (z : ℤ) (n x : ℕ) → old < 2 ^ w → n ≡ 0 → old ≡ with_bits_at w old (z -ℤ (pos n -ℤ pos 1)) n x
no_bits_are w old z n x h is = subst (λ m. old ≡ with_bits_at w old (z -ℤ (pos m -ℤ pos 1)) m x) (sym is) (no_bits w old (z -ℤ (pos 0 -ℤ pos 1)) x h)

pub is_ascending : (l r : ℕ) → nat_le r l ≡ not (nat_lt l r)
is_ascending l r = grind (arith, nat_tests)
