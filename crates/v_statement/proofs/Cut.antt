-- Lemmas on numbers of w bits with some of them replaced.
use Rattle.std.proofs.Common.{◌≡◌, ℕ, ◌+◌, ◌-◌, ◌*◌, ◌/◌, ◌%◌, ◌^◌, ◌<◌, ◌≤◌, min, ⊎_elim, sym, ap, subst, ◌∙◌, arith}
use Rattle.std.proofs.Math.Pow.{pow_pos, pow_mono, pow-add, mod-mod-pow, shr_lt, shl_exact}
use Rattle.std.proofs.Math.Nat.{add-mul-mod_self_right, mod-eq_of_lt, div-eq_of_lt, mod-lt, mod-add-div, mul_comm}
use Rattle.std.proofs.lemmas.Nat.{mul-add-lt}
use Rattle.std.proofs.lemmas.Bool.{cases_lt}
use Rattle.verilog_meaning.specs.Statement.{with_bits_from}

-- a power as a product
pub pow_split : (e w : ℕ) → e ≤ w → 2 ^ w ≡ 2 ^ (w - e) * 2 ^ e
pow_split e w h =
    let j : w - e + e ≡ w = omega arith in
    subst (λ k. 2 ^ k ≡ 2 ^ (w - e) * 2 ^ e) j (pow-add 2 (w - e) e)

-- a number of e bits below the bits of a number of w bits that stand from e on
pub below_whole : (t old e w : ℕ) → e ≤ w → t < 2 ^ e → old < 2 ^ w → t + 2 ^ e * (old / 2 ^ e) < 2 ^ w
below_whole t old e w h a b =
    let j : w ≡ w - e + e = omega arith in
    let quotient : old / 2 ^ e < 2 ^ (w - e) = shr_lt (w - e) e (subst (λ k. old < 2 ^ k) j b) in
    let sum : old / 2 ^ e * 2 ^ e + t < 2 ^ e * 2 ^ (w - e) = mul-add-lt (old / 2 ^ e) (2 ^ e) t (2 ^ (w - e)) quotient a in
    let power : 2 ^ w ≡ 2 ^ (w - e) * 2 ^ e = pow_split e w h in
    omega arith

-- n bits above k bits
pub above_low : (a b k n : ℕ) → a < 2 ^ k → b < 2 ^ n → a + 2 ^ k * b < 2 ^ (k + n)
above_low a b k n h1 h2 =
    let sum : b * 2 ^ k + a < 2 ^ k * 2 ^ n = mul-add-lt b (2 ^ k) a (2 ^ n) h2 h1 in
    let power : 2 ^ (k + n) ≡ 2 ^ k * 2 ^ n = pow-add 2 k n in
    omega arith

pub mod_below : (x n : ℕ) → x % 2 ^ n < 2 ^ n
mod_below x n = mod-lt x (pow_pos n)

-- bits that lie within the number
pub within : (w old k n x : ℕ) → k + n ≤ w → old < 2 ^ w
    → with_bits_from w old k n x ≡ old % 2 ^ k + 2 ^ k * (x % 2 ^ n) + 2 ^ (k + n) * (old / 2 ^ (k + n))
within w old k n x h b =
    mod-eq_of_lt (below_whole (old % 2 ^ k + 2 ^ k * (x % 2 ^ n)) old (k + n) w h (above_low (old % 2 ^ k) (x % 2 ^ n) k n (mod_below old k) (mod_below x n)) b)

-- bits that all lie past the number
pub past : (w old k n x : ℕ) → w ≤ k → old < 2 ^ w → with_bits_from w old k n x ≡ old
past w old k n x h b =
    let more : 2 ^ w ≤ 2 ^ k = pow_mono h in
    let still_more : 2 ^ w ≤ 2 ^ (k + n) = pow_mono (omega arith) in
    let low : old % 2 ^ k ≡ old = mod-eq_of_lt (omega arith) in
    let high : old / 2 ^ (k + n) ≡ 0 = div-eq_of_lt (omega arith) in
    let power : 2 ^ k ≡ 2 ^ (k - w) * 2 ^ w = pow_split w k h in
    let sum : old % 2 ^ k + 2 ^ k * (x % 2 ^ n) + 2 ^ (k + n) * (old / 2 ^ (k + n)) ≡ old + 2 ^ (k - w) * (x % 2 ^ n) * 2 ^ w =
    ap (λ l. l + 2 ^ k * (x % 2 ^ n) + 2 ^ (k + n) * (old / 2 ^ (k + n))) low
    ∙ ap (λ q. old + 2 ^ k * (x % 2 ^ n) + 2 ^ (k + n) * q) high
    ∙ ap (λ p. old + p * (x % 2 ^ n) + 2 ^ (k + n) * 0) power
    ∙ (omega arith) in
    ap (λ n. n % 2 ^ w) sum ∙ add-mul-mod_self_right old (2 ^ (k - w) * (x % 2 ^ n)) (2 ^ w) ∙ mod-eq_of_lt b

-- cutting to more bits first changes nothing
pub cut_twice : (n w high : ℕ) → w ≤ high → n % 2 ^ high % 2 ^ w ≡ n % 2 ^ w
cut_twice n w high h =
    let e : high - w + w ≡ high = omega arith in
    subst (λ k. n % 2 ^ k % 2 ^ w ≡ n % 2 ^ w) e (mod-mod-pow n (high - w) w)

-- a + 2^k * y modulo 2^w takes no more of y than w - k bits
sum_cut : (a k y w : ℕ) → k ≤ w → a < 2 ^ k → (a + 2 ^ k * y) % 2 ^ w ≡ a + 2 ^ k * (y % 2 ^ (w - k))
sum_cut a k y w h b =
    let power : 2 ^ w ≡ 2 ^ (w - k) * 2 ^ k = pow_split k w h in
    let parts : y ≡ y % 2 ^ (w - k) + 2 ^ (w - k) * (y / 2 ^ (w - k)) = sym (mod-add-div y (2 ^ (w - k))) in
    let sum : a + 2 ^ k * y ≡ a + 2 ^ k * (y % 2 ^ (w - k)) + y / 2 ^ (w - k) * 2 ^ w =
    ap (λ z. a + 2 ^ k * z) parts
    ∙ spread a (2 ^ k) (y % 2 ^ (w - k)) (2 ^ (w - k)) (y / 2 ^ (w - k))
    ∙ ap (λ p. a + 2 ^ k * (y % 2 ^ (w - k)) + y / 2 ^ (w - k) * p) (sym power) in
    let e : k + (w - k) ≡ w = omega arith in
    let fits : a + 2 ^ k * (y % 2 ^ (w - k)) < 2 ^ w =
    subst (λ j. a + 2 ^ k * (y % 2 ^ (w - k)) < 2 ^ j) e (above_low a (y % 2 ^ (w - k)) k (w - k) b (mod_below y (w - k))) in
    ap (λ n. n % 2 ^ w) sum
    ∙ add-mul-mod_self_right (a + 2 ^ k * (y % 2 ^ (w - k))) (y / 2 ^ (w - k)) (2 ^ w)
    ∙ mod-eq_of_lt fits
  where
    spread : (a p r q d : ℕ) → a + p * (r + q * d) ≡ a + p * r + d * (q * p)
    spread a p r q d = omega arith

-- bits of which the highest lie past the number
pub cut_short : (w old k n x : ℕ) → k ≤ w → w ≤ k + n → old < 2 ^ w
    → with_bits_from w old k n x ≡ old % 2 ^ k + 2 ^ k * (x % 2 ^ (w - k)) + 2 ^ w * (old / 2 ^ w)
cut_short w old k n x h past_end b =
    let still_more : 2 ^ w ≤ 2 ^ (k + n) = pow_mono past_end in
    let high : old / 2 ^ (k + n) ≡ 0 = div-eq_of_lt (omega arith) in
    let none : old / 2 ^ w ≡ 0 = div-eq_of_lt b in
    ap (λ q. (old % 2 ^ k + 2 ^ k * (x % 2 ^ n) + 2 ^ (k + n) * q) % 2 ^ w) high
    ∙ ap (λ z. z % 2 ^ w) (let e : old % 2 ^ k + 2 ^ k * (x % 2 ^ n) + 2 ^ (k + n) * 0 ≡ old % 2 ^ k + 2 ^ k * (x % 2 ^ n) = omega arith in e)
    ∙ sum_cut (old % 2 ^ k) k (x % 2 ^ n) w h (mod_below old k)
    ∙ ap (λ y. old % 2 ^ k + 2 ^ k * y) (cut_twice x (w - k) n (omega arith))
    ∙ (let e : old % 2 ^ k + 2 ^ k * (x % 2 ^ (w - k)) + 2 ^ w * 0 ≡ old % 2 ^ k + 2 ^ k * (x % 2 ^ (w - k)) = omega arith in sym e)
    ∙ ap (λ q. old % 2 ^ k + 2 ^ k * (x % 2 ^ (w - k)) + 2 ^ w * q) (sym none)

-- both together: e is the place past the last that is written
up_to : (w old k n x e : ℕ) → e ≡ k + n → old < 2 ^ w → k + n ≤ w
    → with_bits_from w old k n x ≡ old % 2 ^ k + 2 ^ k * (x % 2 ^ (e - k)) + 2 ^ e * (old / 2 ^ e)
up_to w old k n x e is b h =
    let m : n ≡ e - k = omega arith in
    within w old k n x h b
    ∙ ap (λ j. old % 2 ^ k + 2 ^ k * (x % 2 ^ j) + 2 ^ (k + n) * (old / 2 ^ (k + n))) m
    ∙ ap (λ j. old % 2 ^ k + 2 ^ k * (x % 2 ^ (e - k)) + 2 ^ j * (old / 2 ^ j)) (sym is)

pub written_up_to : (w old k n x e : ℕ) → k ≤ w → e ≡ min w (k + n) → old < 2 ^ w
    → with_bits_from w old k n x ≡ old % 2 ^ k + 2 ^ k * (x % 2 ^ (e - k)) + 2 ^ e * (old / 2 ^ e)
written_up_to w old k n x e h is b =
    ⊎_elim
    (λ inside. up_to w old k n x e (omega (arith, inside, is)) b (omega (arith, inside)))
    (λ over.
    let same : w ≡ e = omega (arith, over, is) in
    cut_short w old k n x h over b ∙ ap (λ j. old % 2 ^ k + 2 ^ k * (x % 2 ^ (j - k)) + 2 ^ j * (old / 2 ^ j)) same)
    (cases_lt (k + n) w)

-- what stands from e on, by taking away what stands below
pub above_part : (old e : ℕ) → old - old % 2 ^ e ≡ 2 ^ e * (old / 2 ^ e)
above_part old e = let sum : old % 2 ^ e + 2 ^ e * (old / 2 ^ e) ≡ old = mod-add-div old (2 ^ e) in omega arith

pub written_fits : (w old k x e : ℕ) → k ≤ e → e ≤ w → old < 2 ^ w → old % 2 ^ k + 2 ^ k * (x % 2 ^ (e - k)) + 2 ^ e * (old / 2 ^ e) < 2 ^ w
written_fits w old k x e h1 h2 b =
    let j : k + (e - k) ≡ e = omega arith in
    let low : old % 2 ^ k + 2 ^ k * (x % 2 ^ (e - k)) < 2 ^ e =
    subst (λ j. old % 2 ^ k + 2 ^ k * (x % 2 ^ (e - k)) < 2 ^ j) j (above_low (old % 2 ^ k) (x % 2 ^ (e - k)) k (e - k) (mod_below old k) (mod_below x (e - k))) in
    below_whole (old % 2 ^ k + 2 ^ k * (x % 2 ^ (e - k))) old e w h2 low b

-- bits moved up to their place
pub moved_up : (x k e high : ℕ) → k ≤ e → e ≤ high → x % 2 ^ (e - k) * 2 ^ k % 2 ^ high ≡ 2 ^ k * (x % 2 ^ (e - k))
moved_up x k e high h1 h2 =
    let fits : e - k + k ≤ high = omega arith in
    shl_exact (e - k) k high (mod_below x (e - k)) fits ∙ mul_comm (x % 2 ^ (e - k)) (2 ^ k)
