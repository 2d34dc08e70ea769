-- The number formulas of the words' operators give numbers below 2^w.
use Rattle.std.proofs.Common.{◌≡◌, ℕ, ◌+◌, ◌-◌, ◌*◌, ◌/◌, ◌<◌, ◌≤◌, ◌^◌, min, Bool, true, false, cond, ◌&&◌, nat_le, IsTrue, subst, arith}
use Rattle.std.proofs.Math.Nat.{mod-lt, div-le_self}
use Rattle.std.proofs.Math.Pow.{pow_pos, pow_mono}
use Rattle.std.proofs.lemmas.Nat.{mul-add-lt, pow-add, shr_below}
use Rattle.std.proofs.lemmas.Bool.Decides.{nat_tests}
use Rattle.wb_values.specs.Number.{top_bit, word_not, word_neg, word_add, word_sub, word_mul, word_shl, word_lshr, word_ashr, word_concat, word_sext}

pub not_below : (w x : ℕ) → word_not w x < 2 ^ w
not_below w x = let p : 0 < 2 ^ w = pow_pos w in omega arith

pub neg_below : (w x : ℕ) → word_neg w x < 2 ^ w
neg_below w x = mod-lt (2 ^ w - x) (pow_pos w)

pub add_below : (w x y : ℕ) → x < 2 ^ w → word_add w x y < 2 ^ w
add_below w x y h = mod-lt (x + y) (pow_pos w)

pub sub_below : (w x y : ℕ) → x < 2 ^ w → word_sub w x y < 2 ^ w
sub_below w x y h = mod-lt (x + (2 ^ w - y)) (pow_pos w)

pub mul_below : (w x y : ℕ) → x < 2 ^ w → word_mul w x y < 2 ^ w
mul_below w x y h = mod-lt (x * y) (pow_pos w)

pub shl_below : (w x y : ℕ) → x < 2 ^ w → word_shl w x y < 2 ^ w
shl_below w x y h = mod-lt (x * 2 ^ min y w) (pow_pos w)

pub lshr_below : (w x y : ℕ) → x < 2 ^ w → word_lshr w x y < 2 ^ w
lshr_below w x y h = let l : x / 2 ^ min y w ≤ x = div-le_self x (2 ^ min y w) in omega arith

pub filled_below : (b : Bool) (q low high : ℕ) → q < low → low ≤ high → q + cond b (high - low) 0 < high
filled_below true q low high h k = omega arith
filled_below false q low high h k = omega arith

pub ashr_below : (w x y : ℕ) → x < 2 ^ w → word_ashr w x y < 2 ^ w
ashr_below w x y h =
    let m : min y w ≤ w = omega arith in
    let e : w ≡ w - min y w + min y w = omega arith in
    let b : x < 2 ^ (w - min y w + min y w) = subst (λ k. x < 2 ^ k) e h in
    let q : x / 2 ^ min y w < 2 ^ (w - min y w) = shr_below x (w - min y w) (min y w) b in
    let l : w - min y w ≤ w = omega arith in
    filled_below (top_bit w x) (x / 2 ^ min y w) (2 ^ (w - min y w)) (2 ^ w) q (pow_mono l)

pub sext_below : (n w x : ℕ) → w ≤ n → x < 2 ^ w → word_sext n w x < 2 ^ n
sext_below n w x h b = filled_below (top_bit w x) x (2 ^ w) (2 ^ n) b (pow_mono h)

pub wider : (n w : ℕ) → IsTrue (nat_le w n && nat_le n 128) → w ≤ n
wider n w t = grind (arith, nat_tests)

pub concat_below : (x u y w : ℕ) → x < 2 ^ u → y < 2 ^ w → word_concat w x y < 2 ^ (u + w)
concat_below x u y w a b =
    let p : 2 ^ (u + w) ≡ 2 ^ u * 2 ^ w = pow-add 2 u w in
    let l : x * 2 ^ w + y < 2 ^ w * 2 ^ u = mul-add-lt x (2 ^ w) y (2 ^ u) a b in
    omega (arith, p, l)
