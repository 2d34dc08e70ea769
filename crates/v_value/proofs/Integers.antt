-- Integers by their sizes: their bits, quotients and remainders; and powers by squares.
use Rattle.std.proofs.Common.{◌≡◌, ◌≤◌, ◌<◌, ℕ, zero, suc, ◌+◌, ◌-◌, ◌*◌, ◌/◌, ◌%◌, ◌^◌, ◌≢◌, ◌∙◌, ⊎_elim, refl, ap, sym, subst, Bool, true, false, cond, not, ℤ, pos, ◌-ℤ◌, neg_ℤ, nat_abs, int_div, int_rem, arith}
use Rattle.std.proofs.Math.Nat.{div-zero, zero-div, zero-mod, mod_self, mod-eq_of_lt, mod-add-div, mod-lt, pow-zero, pow-suc}
use Rattle.std.proofs.Math.Pow.{mod-mod-pow}
use Rattle.std.proofs.lemmas.Bool.{cases_lt}
use Rattle.std.proofs.lemmas.Nat.{mul-mod_first, mul-mod_second, mul-pow, pow-mod, pow-add}
use Rattle.std.proofs.lemmas.Int.{ints}
use borrow.Author.Tests.{leb-true}
use Rattle.wb_values.specs.Number.{top_bit, word_neg}
use Rattle.verilog_meaning.specs.Expression.{integer_from, bits_of_integer}
use Rattle.v_value.specs.Operators.{integer_of_size}

-- the bits of -n
pub bits-of_negative : (w n : ℕ) → n < 2 ^ w → word_neg w n ≡ bits_of_integer w (neg_ℤ (pos n))
bits-of_negative w zero h = (let e : 2 ^ w - 0 ≡ 2 ^ w = omega arith in ap (λ k. k % 2 ^ w) e) ∙ mod_self (2 ^ w) ∙ sym (zero-mod (2 ^ w))
bits-of_negative w (suc n) h =
    let low : n % 2 ^ w ≡ n = mod-eq_of_lt {n = n} {m = 2 ^ w} (omega arith) in
    let high : (2 ^ w - suc n) % 2 ^ w ≡ 2 ^ w - suc n = mod-eq_of_lt {n = 2 ^ w - suc n} {m = 2 ^ w} (omega arith) in
    high ∙ (let e : 2 ^ w - suc n ≡ 2 ^ w - 1 - n = omega arith in e) ∙ sym (ap (λ k. 2 ^ w - 1 - k) low)

-- the size of a number with its sign bit
pub size-of_negative : (w x : ℕ) → x < 2 ^ w → top_bit w x ≡ true → integer_from true w x ≡ neg_ℤ (pos (word_neg w x))
size-of_negative w x h t =
    let some : 2 ^ w ≤ 2 * x = leb-true _ _ t in
    let size : word_neg w x ≡ 2 ^ w - x = mod-eq_of_lt {n = 2 ^ w - x} {m = 2 ^ w} (omega arith) in
    let e : pos x -ℤ pos (2 ^ w) ≡ neg_ℤ (pos (2 ^ w - x)) = omega (arith, ints) in
    ap (λ b. cond b (pos x -ℤ pos (2 ^ w)) (pos x)) t ∙ e ∙ sym (ap (λ (n : ℕ). neg_ℤ (pos n)) size)

abbrev pub differ : Bool → Bool → Bool
differ true q = not q
differ false q = q

pub quotient-sizes : (p q : Bool) (a b : ℕ) → int_div (integer_of_size p a) (integer_of_size q b) ≡ integer_of_size (differ p q) (a / b)
quotient-sizes false false a b = refl
quotient-sizes false true a zero = ap (λ (n : ℕ). pos n) (div-zero a) ∙ sym (ap (λ (n : ℕ). neg_ℤ (pos n)) (div-zero a))
quotient-sizes false true a (suc b) = refl
quotient-sizes true false zero b = ap (λ (n : ℕ). pos n) (zero-div b) ∙ sym (ap (λ (n : ℕ). neg_ℤ (pos n)) (zero-div b))
quotient-sizes true false (suc a) b = refl
quotient-sizes true true zero zero = refl
quotient-sizes true true zero (suc b) = ap (λ (n : ℕ). neg_ℤ (pos n)) (zero-div (suc b)) ∙ sym (ap (λ (n : ℕ). pos n) (zero-div (suc b)))
quotient-sizes true true (suc a) zero = ap (λ (n : ℕ). neg_ℤ (pos n)) (div-zero (suc a)) ∙ sym (ap (λ (n : ℕ). pos n) (div-zero (suc a)))
quotient-sizes true true (suc a) (suc b) = refl

size-of : (q : Bool) (b : ℕ) → nat_abs (integer_of_size q b) ≡ b
size-of false b = refl
size-of true zero = refl
size-of true (suc b) = refl

remainder-by : (p : Bool) (a : ℕ) (y : ℤ) → int_rem (integer_of_size p a) y ≡ integer_of_size p (a % nat_abs y)
remainder-by false a y = refl
remainder-by true zero y = ap (λ (n : ℕ). pos n) (zero-mod (nat_abs y)) ∙ sym (ap (λ (n : ℕ). neg_ℤ (pos n)) (zero-mod (nat_abs y)))
remainder-by true (suc a) y = refl

pub remainder-sizes : (p q : Bool) (a b : ℕ) → int_rem (integer_of_size p a) (integer_of_size q b) ≡ integer_of_size p (a % b)
remainder-sizes p q a b = remainder-by p a (integer_of_size q b) ∙ ap (λ n. integer_of_size p (a % n)) (size-of q b)

even : (n : ℕ) → n % 2 ≢ 1 → n ≡ n / 2 + n / 2
even n h = let below : n % 2 < 2 = mod-lt n (omega arith) in ⊎_elim (λ z. omega (arith, z, mod-add-div n 2)) (λ g. absurd (h (omega (arith, g, below)))) (cases_lt (n % 2) 1)

-- cutting to more bits first changes nothing
cut : (n w high : ℕ) → w ≤ high → n % 2 ^ high % 2 ^ w ≡ n % 2 ^ w
cut n w high h =
    let e : high - w + w ≡ high = omega arith in
    subst (λ k. n % 2 ^ k % 2 ^ w ≡ n % 2 ^ w) e (mod-mod-pow n (high - w) w)

-- one step of a power by squares, modulo m
squared : (s n m : ℕ) → s ^ (n / 2 + n / 2) % m ≡ (s * s % m) ^ (n / 2) % m
squared s n m = ap (λ k. k % m) (pow-add s (n / 2) (n / 2) ∙ sym (mul-pow s s (n / 2))) ∙ sym (pow-mod (s * s) (n / 2) m)

pub power-even : (p s n m r : ℕ) → n % 2 ≢ 1 → r ≡ p → p * s ^ n % m ≡ r * (s * s % m) ^ (n / 2) % m
power-even p s n m r h is_r =
    let e : n ≡ n / 2 + n / 2 = even n h in
    ap (λ k. p * s ^ k % m) e ∙ sym (mul-mod_second p (s ^ (n / 2 + n / 2)) m) ∙ ap (λ k. p * k % m) (squared s n m) ∙ mul-mod_second p ((s * s % m) ^ (n / 2)) m
    ∙ ap (λ k. k * (s * s % m) ^ (n / 2) % m) (sym is_r)

pub power-odd : (p s n m r : ℕ) → n % 2 ≡ 1 → r ≡ p * s % m → p * s ^ n % m ≡ r * (s * s % m) ^ (n / 2) % m
power-odd p s n m r h is_r =
    let e : n ≡ suc (n / 2 + n / 2) = omega (arith, mod-add-div n 2) in
    let q : ℕ = s ^ (n / 2 + n / 2) in
    ap (λ k. p * s ^ k % m) e ∙ ap (λ k. p * k % m) (pow-suc s (n / 2 + n / 2))
    ∙ ap (λ k. k % m) (let f : p * (q * s) ≡ p * s * q = omega arith in f)
    ∙ sym (mul-mod_second (p * s) q m) ∙ ap (λ k. p * s * k % m) (squared s n m) ∙ mul-mod_second (p * s) ((s * s % m) ^ (n / 2)) m
    ∙ sym (mul-mod_first (p * s) ((s * s % m) ^ (n / 2)) m) ∙ ap (λ k. k * (s * s % m) ^ (n / 2) % m) (sym is_r)

-- behind the last step, cut to fewer bits
pub power-end : (x p s n w high r : ℕ) → w ≤ high → n ≡ 0 → x % 2 ^ high ≡ p * s ^ n % 2 ^ high → r ≡ p % 2 ^ w → r ≡ x % 2 ^ w
power-end x p s n w high r h z e is_r =
    let one : p * s ^ n ≡ p = ap (λ k. p * s ^ k) z ∙ ap (λ k. p * k) (pow-zero s) ∙ (omega arith) in
    is_r ∙ sym (cut p w high h) ∙ ap (λ k. k % 2 ^ w) (ap (λ k. k % 2 ^ high) (sym one) ∙ sym e) ∙ cut x w high h
