-- Bits of a number from a place on, and the places of bits.
use Rattle.std.proofs.Common.{◌≡◌, ◌≤◌, ◌<◌, ℕ, ◌+◌, ◌-◌, ◌*◌, ◌/◌, ◌%◌, ◌^◌, ◌∙◌, refl, ap, sym, subst, Bool, true, false, cond, not, nat_le, ℤ, pos, negsuc, ◌+ℤ◌, ◌-ℤ◌, arith}
use Rattle.std.proofs.Math.Nat.{div-eq_of_lt, mul-mod_left, zero-mod}
use Rattle.std.proofs.Math.Pow.{pow_mono, pow-add, mod-mod-pow}
use borrow.Author.Tests.{leb-true}
use Rattle.std.proofs.lemmas.Bool.{false≢true}
use Rattle.std.proofs.lemmas.Int.{ints}
use Rattle.wb_values.specs.Number.{top_bit, word_not}
use Rattle.verilog_meaning.specs.Expression.{Object, place_of_bit, Bits, bits_from, bits_upward}

-- bits past the number
pub beyond : (x w k n : ℕ) → x < 2 ^ w → w ≤ k → 0 ≡ x / 2 ^ k % 2 ^ n
beyond x w k n h l =
    let more : 2 ^ w ≤ 2 ^ k = pow_mono l in
    let lt : x < 2 ^ k = omega arith in
    sym (ap (λ m. m % 2 ^ n) (div-eq_of_lt lt) ∙ zero-mod (2 ^ n))

-- bits below the number
pub below : (x k n : ℕ) → n ≤ k → 0 ≡ x * 2 ^ k % 2 ^ n
below x k n l =
    let e : k - n + n ≡ k = omega arith in
    let power : 2 ^ k ≡ 2 ^ (k - n) * 2 ^ n = subst (λ j. 2 ^ j ≡ 2 ^ (k - n) * 2 ^ n) e (pow-add 2 (k - n) n) in
    let whole : x * 2 ^ k ≡ x * 2 ^ (k - n) * 2 ^ n = rw power (omega arith) in
    sym (ap (λ m. m % 2 ^ n) whole ∙ mul-mod_left (x * 2 ^ (k - n)) (2 ^ n))

-- what was cut to more bits first
pub cut_first : (x n high r : ℕ) → n ≤ high → r ≡ x % 2 ^ high % 2 ^ n → r ≡ x % 2 ^ n
cut_first x n high r l is_r =
    let e : high - n + n ≡ high = omega arith in
    is_r ∙ subst (λ j. x % 2 ^ j % 2 ^ n ≡ x % 2 ^ n) e (mod-mod-pow x (high - n) n)

-- bits that stand so far below a number that none of them reaches it
pub far_below : (negative : Bool) (m b n x : ℕ) → not negative ≡ false → n ≤ 128 → 128 ≤ m → 0 ≡ bits_from (cond negative (negsuc m) (pos m) -ℤ pos b) n x
far_below false m b n x q l h = absurd (false≢true (sym q))
far_below true m b n x q l h =
    let e : negsuc m -ℤ pos b ≡ negsuc (m + b) = omega (arith, ints) in
    subst (λ z. 0 ≡ bits_from z n x) (sym e) (below x (m + b + 1) n (omega (arith, l, h)))

-- the magnitude of a negative number of at most w bits
pub small_magnitude : (w x r : ℕ) → 1 ≤ w → w ≤ 128 → x < 2 ^ w → top_bit w x ≡ true → r ≡ word_not w x → r < 2 ^ 127
small_magnitude w x r some most h t is_r =
    let top : 2 ^ w ≤ 2 * x = leb-true _ _ t in
    let e : 1 + (w - 1) ≡ w = omega arith in
    let twice : 2 ^ w ≡ 2 * 2 ^ (w - 1) = subst (λ k. 2 ^ k ≡ 2 * 2 ^ (w - 1)) e (pow-add 2 1 (w - 1)) in
    let fewer : w - 1 ≤ 127 = omega (arith, most) in
    let power : 2 ^ (w - 1) ≤ 2 ^ 127 = pow_mono fewer in
    omega (arith, top, twice, power, is_r, h)

-- the lowest bit of those from a base up, in an ascending range
pub ascending_upward : (o : Object) (b : ℤ) (n : ℕ) → 1 ≤ n → o.left < o.right → (p : ℤ) → p ≡ place_of_bit o b → (r : Bits) → r ≡ record { low = p -ℤ pos (n - 1); count = n } → r ≡ bits_upward o b n
ascending_upward o b n some h p is_p r is_r =
    let moved : pos o.right -ℤ b -ℤ pos (n - 1) ≡ pos o.right -ℤ (b +ℤ (pos n -ℤ pos 1)) = omega (arith, ints) in
    let low : (c : Bool) → nat_le o.right o.left ≡ c → cond c (b -ℤ pos o.right) (pos o.right -ℤ b) -ℤ pos (n - 1)
    ≡ cond c (cond c (b -ℤ pos o.right) (pos o.right -ℤ b)) (cond c (b +ℤ (pos n -ℤ pos 1) -ℤ pos o.right) (pos o.right -ℤ (b +ℤ (pos n -ℤ pos 1)))) = λ c.
    elim c as (λ c. nat_le o.right o.left ≡ c → cond c (b -ℤ pos o.right) (pos o.right -ℤ b) -ℤ pos (n - 1)
    ≡ cond c (cond c (b -ℤ pos o.right) (pos o.right -ℤ b)) (cond c (b +ℤ (pos n -ℤ pos 1) -ℤ pos o.right) (pos o.right -ℤ (b +ℤ (pos n -ℤ pos 1))))) [
      | true ↦ λ e. let l : o.right ≤ o.left = leb-true _ _ e in absurd (omega arith)
      | false ↦ λ e. moved
    ] in
    is_r ∙ (λ i. record { low = (ap (λ z. z -ℤ pos (n - 1)) is_p ∙ low (nat_le o.right o.left) refl) i; count = n })
