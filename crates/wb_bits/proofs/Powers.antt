-- Lemmas on numbers modulo powers of two, and on fills of ones.
use Rattle.std.proofs.Common.{◌≡◌, ℕ, suc, ◌+◌, ◌-◌, ◌*◌, ◌/◌, ◌%◌, ◌^◌, ◌<◌, ◌≤◌, ⊎_elim, Option, None, Some, not, nat_eq, nat_le, bit_or, unwrap_or, sym, ap, subst, ◌∙◌, arith}
use Rattle.std.specs.Option.{SomeIff}
use Rattle.std.proofs.Math.Pow.{pow_pos, pow_mono, pow-add, mod-mod-pow, not_mod, shl_exact, high_ones, shr_lt}
use Rattle.std.proofs.Math.Nat.{add-mul-mod_self_right, mul-mod_left, div-eq_of_lt, zero-mod}
use Rattle.std.proofs.lemmas.Bool.{cases_lt}
use Rattle.std.proofs.lemmas.Bool.Decides.{nat_tests}
use Rattle.std.proofs.lemmas.Nat.{or_shifted, or_comm, mul-add-lt, le-div}

-- a power as a multiple of a smaller one
pub pow_parts : (w high : ℕ) → w ≤ high → 2 ^ high ≡ 2 ^ (high - w) * 2 ^ w
pow_parts w high h =
    let e : high - w + w ≡ high = omega arith in
    subst (λ k. 2 ^ k ≡ 2 ^ (high - w) * 2 ^ w) e (pow-add 2 (high - w) w)

-- cutting to more bits first changes nothing
pub mod-mod_wider : (n w high : ℕ) → w ≤ high → n % 2 ^ high % 2 ^ w ≡ n % 2 ^ w
mod-mod_wider n w high h =
    let e : high - w + w ≡ high = omega arith in
    subst (λ k. n % 2 ^ k % 2 ^ w ≡ n % 2 ^ w) e (mod-mod-pow n (high - w) w)

-- taking away from a multiple of the modulus
sub_multiple : (x y m k : ℕ) → y ≤ m → (x + (suc k * m - y)) % m ≡ (x + (m - y)) % m
sub_multiple x y m k h =
    let e : x + (suc k * m - y) ≡ x + (m - y) + k * m = omega arith in
    ap (λ n. n % m) e ∙ add-mul-mod_self_right (x + (m - y)) k m

-- taking away modulo more bits first
pub sub_wider : (x y w high : ℕ) → w ≤ high → y < 2 ^ w → (x + (2 ^ high - y)) % 2 ^ high % 2 ^ w ≡ (x + (2 ^ w - y)) % 2 ^ w
sub_wider x y w high h b =
    mod-mod_wider (x + (2 ^ high - y)) w high h
    ∙ ap (λ p. (x + (p - y)) % 2 ^ w) (pow_parts w high h)
    ∙ (let q : 0 < 2 ^ (high - w) = pow_pos (high - w) in
    let e : 2 ^ (high - w) ≡ suc (2 ^ (high - w) - 1) = omega arith in
    let l : y ≤ 2 ^ w = omega arith in
    subst (λ k. (x + (k * 2 ^ w - y)) % 2 ^ w ≡ (x + (2 ^ w - y)) % 2 ^ w) (sym e) (sub_multiple x y (2 ^ w) (2 ^ (high - w) - 1) l))

-- the lowest bits of the flipped number
pub not_wider : (x w high : ℕ) → w ≤ high → x < 2 ^ w → (2 ^ high - 1 - x) % 2 ^ w ≡ 2 ^ w - 1 - x
not_wider x w high h b =
    let e : high - w + w ≡ high = omega arith in
    subst (λ k. (2 ^ k - 1 - x) % 2 ^ w ≡ 2 ^ w - 1 - x) e (not_mod (high - w) w b)

-- ones above a number of fewer bits
pub or_fill : (x low high fill : ℕ) → low ≤ high → x < 2 ^ low → fill ≡ 2 ^ high - 2 ^ low → bit_or x fill ≡ x + (2 ^ high - 2 ^ low)
or_fill x low high fill h b is_fill =
    let e : high - low + low ≡ high = omega arith in
    let ones : 2 ^ high - 2 ^ low ≡ (2 ^ (high - low) - 1) * 2 ^ low =
    subst (λ k. 2 ^ k - 2 ^ low ≡ (2 ^ (high - low) - 1) * 2 ^ low) e (high_ones (high - low) low) in
    ap (λ f. bit_or x f) (is_fill ∙ ones)
    ∙ or_comm x ((2 ^ (high - low) - 1) * 2 ^ low)
    ∙ or_shifted (2 ^ (high - low) - 1) low x b
    ∙ (omega arith)

-- and these still fit
pub fill_fits : (x low high fill : ℕ) → low ≤ high → x < 2 ^ low → fill ≡ 2 ^ high - 2 ^ low → bit_or x fill < 2 ^ high
fill_fits x low high fill h b is_fill =
    let more : 2 ^ low ≤ 2 ^ high = pow_mono h in
    let value : bit_or x fill ≡ x + (2 ^ high - 2 ^ low) = or_fill x low high fill h b is_fill in
    omega arith

-- a word above another
pub or_above : (x u y w high : ℕ) → x < 2 ^ u → y < 2 ^ w → u + w ≤ high → bit_or (x * 2 ^ w % 2 ^ high) y ≡ x * 2 ^ w + y
or_above x u y w high a b h = ap (λ n. bit_or n y) (shl_exact u w high a h) ∙ or_shifted x w y b

-- which fits both widths together
pub above_fits : (x u y w : ℕ) → x < 2 ^ u → y < 2 ^ w → x * 2 ^ w + y < 2 ^ (u + w)
above_fits x u y w a b =
    subst (λ p. x * 2 ^ w + y < p) (sym (pow-add 2 u w ∙ (omega arith))) (mul-add-lt x (2 ^ w) y (2 ^ u) a b)

-- a power is twice the one before
pub pow_twice : (w : ℕ) → 1 ≤ w → 2 ^ w ≡ 2 * 2 ^ (w - 1)
pow_twice w h =
    let e : 1 + (w - 1) ≡ w = omega arith in
    subst (λ k. 2 ^ k ≡ 2 * 2 ^ (w - 1)) e (pow-add 2 1 (w - 1))

-- the quotient by p is 0 below p, and else is not
zero_quotient : (x p q : ℕ) → 0 < p → q ≡ 2 * p → x < p → not (nat_eq (x / p) 0) ≡ nat_le q (2 * x)
zero_quotient x p q h e below = let is_zero : x / p ≡ 0 = div-eq_of_lt below in grind (arith, nat_tests)

some_quotient : (x p q : ℕ) → 0 < p → q ≡ 2 * p → p ≤ x → not (nat_eq (x / p) 0) ≡ nat_le q (2 * x)
some_quotient x p q h e above = let is_more : 1 ≤ x / p = le-div 1 x p h (omega arith) in grind (arith, nat_tests)

-- whether a number's quotient by p is 0, against twice the number and twice p
quotient_test : (x p q : ℕ) → 0 < p → q ≡ 2 * p → not (nat_eq (x / p) 0) ≡ nat_le q (2 * x)
quotient_test x p q h e = ⊎_elim (zero_quotient x p q h e) (some_quotient x p q h e) (cases_lt x p)

-- the top bit by a shift
pub top_by_shift : (w x : ℕ) → 1 ≤ w → not (nat_eq (x / 2 ^ (w - 1)) 0) ≡ nat_le (2 ^ w) (2 * x)
top_by_shift w x h = quotient_test x (2 ^ (w - 1)) (2 ^ w) (pow_pos (w - 1)) (pow_twice w h)

-- a shift to the left by w or more leaves nothing of the lowest w bits
shl_past : (x s w : ℕ) → w ≤ s → x * 2 ^ s % 2 ^ w ≡ 0
shl_past x s w h =
    ap (λ p. x * p % 2 ^ w) (pow_parts w s h)
    ∙ ap (λ n. n % 2 ^ w) (let e : x * (2 ^ (s - w) * 2 ^ w) ≡ x * 2 ^ (s - w) * 2 ^ w = omega arith in e)
    ∙ mul-mod_left (x * 2 ^ (s - w)) (2 ^ w)

-- a shift to the left within high bits, 0 from there on, cut to w bits
pub shl_cut : (shifted : Option ℕ) (x s w high : ℕ) → w ≤ high → SomeIff shifted (s < high) (x * 2 ^ s % 2 ^ high)
    → unwrap_or shifted 0 % 2 ^ w ≡ x * 2 ^ s % 2 ^ w
shl_cut None x s w high h past =
    let l : w ≤ s = ⊎_elim (λ below. absurd (past below)) (λ above. omega arith) (cases_lt s high) in
    zero-mod (2 ^ w) ∙ sym (shl_past x s w l)
shl_cut (Some v) x s w high h is = ap (λ n. n % 2 ^ w) is.1 ∙ mod-mod_wider (x * 2 ^ s) w high h

-- a shift to the right leaves fewer bits
shr_below : (x w m : ℕ) → m ≤ w → x < 2 ^ w → x / 2 ^ m < 2 ^ (w - m)
shr_below x w m h b =
    let e : w ≡ w - m + m = omega arith in
    shr_lt (w - m) m (subst (λ k. x < 2 ^ k) e b)

-- the word's bits moved down by m, and the ones above them
pub or_ashr : (x w m s fill : ℕ) → m ≤ w → x < 2 ^ w → s ≡ m → fill ≡ 2 ^ w - 2 ^ (w - s)
    → bit_or (x / 2 ^ m) fill ≡ x / 2 ^ m + (2 ^ w - 2 ^ (w - m))
or_ashr x w m s fill h b is_m is_fill =
    or_fill (x / 2 ^ m) (w - m) w fill (omega arith) (shr_below x w m h b) (is_fill ∙ ap (λ k. 2 ^ w - 2 ^ (w - k)) is_m)

-- which fit the width
pub ashr_fits : (x w m s fill : ℕ) → m ≤ w → x < 2 ^ w → s ≡ m → fill ≡ 2 ^ w - 2 ^ (w - s) → bit_or (x / 2 ^ m) fill < 2 ^ w
ashr_fits x w m s fill h b is_m is_fill =
    fill_fits (x / 2 ^ m) (w - m) w fill (omega arith) (shr_below x w m h b) (is_fill ∙ ap (λ k. 2 ^ w - 2 ^ (w - k)) is_m)
