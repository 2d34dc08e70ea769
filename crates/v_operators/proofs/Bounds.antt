-- The operators' numbers fit their widths.
use Rattle.std.proofs.Common.{◌≡◌, ℕ, ◌+◌, ◌-◌, ◌*◌, ◌/◌, ◌<◌, ◌≤◌, ◌^◌, min, Bool, true, false, cond, subst, arith}
use Rattle.std.proofs.Math.Nat.{mod-lt, div-le_self}
use Rattle.std.proofs.Math.Pow.{pow_pos, pow_mono}
use Rattle.std.specs.Int.Bits.{and_lt}
use Rattle.std.proofs.lemmas.Nat.{or_lt, xor_lt, mul-add-lt, pow-add, shr_below}
use Rattle.wb_values.specs.Number.{top_bit, word_not, word_neg, word_and, word_or, word_xor, word_add, word_sub, word_mul, word_shl, word_lshr, word_ashr, word_concat, word_sext}

pub not_below : (w x : ℕ) → word_not w x < 2 ^ w
not_below w x = let p : 0 < 2 ^ w = pow_pos w in omega arith

pub neg_below : (w x : ℕ) → word_neg w x < 2 ^ w
neg_below w x = mod-lt (2 ^ w - x) (pow_pos w)

pub add_below : (w x y : ℕ) → x < 2 ^ w → y < 2 ^ w → word_add w x y < 2 ^ w
add_below w x y h k = mod-lt (x + y) (pow_pos w)

pub sub_below : (w x y : ℕ) → x < 2 ^ w → y < 2 ^ w → word_sub w x y < 2 ^ w
sub_below w x y h k = mod-lt (x + (2 ^ w - y)) (pow_pos w)

pub mul_below : (w x y : ℕ) → x < 2 ^ w → y < 2 ^ w → word_mul w x y < 2 ^ w
mul_below w x y h k = mod-lt (x * y) (pow_pos w)

pub and_below : (w x y : ℕ) → x < 2 ^ w → y < 2 ^ w → word_and x y < 2 ^ w
and_below w x y h k = and_lt w x y h k

pub or_below : (w x y : ℕ) → x < 2 ^ w → y < 2 ^ w → word_or x y < 2 ^ w
or_below w x y h k = or_lt w x y h k

pub xor_below : (w x y : ℕ) → x < 2 ^ w → y < 2 ^ w → word_xor x y < 2 ^ w
xor_below w x y h k = xor_lt w x y h k

pub shl_below : (w x y : ℕ) → x < 2 ^ w → y < 2 ^ w → word_shl w x y < 2 ^ w
shl_below w x y h k = mod-lt (x * 2 ^ min y w) (pow_pos w)

pub lshr_below : (w x y : ℕ) → x < 2 ^ w → y < 2 ^ w → word_lshr w x y < 2 ^ w
lshr_below w x y h k = let l : x / 2 ^ min y w ≤ x = div-le_self x (2 ^ min y w) in omega arith

filled_below : (b : Bool) (q low high : ℕ) → q < low → low ≤ high → q + cond b (high - low) 0 < high
filled_below true q low high h k = omega arith
filled_below false q low high h k = omega arith

pub ashr_below : (w x y : ℕ) → x < 2 ^ w → y < 2 ^ w → word_ashr w x y < 2 ^ w
ashr_below w x y h k =
    let m : min y w ≤ w = omega arith in
    let e : w ≡ w - min y w + min y w = omega arith in
    let b : x < 2 ^ (w - min y w + min y w) = subst (λ k. x < 2 ^ k) e h in
    let q : x / 2 ^ min y w < 2 ^ (w - min y w) = shr_below x (w - min y w) (min y w) b in
    let l : w - min y w ≤ w = omega arith in
    filled_below (top_bit w x) (x / 2 ^ min y w) (2 ^ (w - min y w)) (2 ^ w) q (pow_mono l)

pub sext_below : (n w x : ℕ) → w ≤ n → x < 2 ^ w → word_sext n w x < 2 ^ n
sext_below n w x h b = filled_below (top_bit w x) x (2 ^ w) (2 ^ n) b (pow_mono h)

pub zext_below : (n w x : ℕ) → w ≤ n → x < 2 ^ w → x < 2 ^ n
zext_below n w x h b = let p : 2 ^ w ≤ 2 ^ n = pow_mono h in omega (arith, p)

pub concat_below : (x u y w : ℕ) → x < 2 ^ u → y < 2 ^ w → word_concat w x y < 2 ^ (u + w)
concat_below x u y w a b =
    let p : 2 ^ (u + w) ≡ 2 ^ u * 2 ^ w = pow-add 2 u w in
    let l : x * 2 ^ w + y < 2 ^ w * 2 ^ u = mul-add-lt x (2 ^ w) y (2 ^ u) a b in
    omega (arith, p, l)

-- a number fits 128 bits where it fits fewer
pub bit_below : (b : Bool) (w : ℕ) → 1 ≤ w → cond b 1 0 < 2 ^ w
bit_below b w h = let p : 2 ^ 1 ≤ 2 ^ w = pow_mono h in below_two b (2 ^ w) p where
  below_two : (b : Bool) (n : ℕ) → 2 ≤ n → cond b 1 0 < n
  below_two true n h = omega arith
  below_two false n h = omega arith
