-- Bits of widened numbers, and of several copies of a number.
use Rattle.std.proofs.Common.{◌≡◌, ℕ, zero, suc, ◌+◌, ◌-◌, ◌*◌, ◌/◌, ◌%◌, ◌^◌, ◌<◌, ◌≤◌, Bool, true, false, cond, ◌==◌, nat_le, ◌⊎◌, inl, inr, refl, sym, ap, ◌∙◌, subst, arith, pow_pos, mod-lt, le-leb}
use Rattle.std.specs.Int.{bit_at}
use Rattle.std.proofs.lemmas.Bool.{cases_lt, lt-leb}
use Rattle.std.proofs.lemmas.Bool.Decides.{nat_tests}
use Rattle.std.proofs.lemmas.Nat.{pow-add, shr_split, shr_below, mod-mul-add, mul-add-lt}
use Rattle.std.proofs.lemmas.Nat.Bits.{bit_at_cat_low, bit_at_cat_high, bit_at_ones}
use Rattle.wb_values.specs.Number.{top_bit, word_sext}
use Rattle.verilog_meaning.specs.Expression.{widened, side_by_side}
use Rattle.verilog_meaning.specs.Register.{is_set}
use Rattle.verilog_settled.proofs.Bits.{set_from_bit, unset_past}

-- ---- the top bit

top_at : (p q r : ℕ) → r < p → q < 2 → nat_le (2 * p) (2 * (q * p + r)) ≡ (q % 2 == 1)
top_at p zero r h g = lt-leb (2 * p) (2 * (zero * p + r)) (omega (arith, h))
top_at p (suc zero) r h g = le-leb (2 * p) (2 * (suc zero * p + r)) (omega (arith, h))
top_at p (suc (suc q)) r h g = absurd (omega (arith, g))

pub top_is : (w x : ℕ) → x < 2 ^ suc w → top_bit (suc w) x ≡ is_set x w
top_is w x h =
    let e : 2 ^ suc w ≡ 2 * 2 ^ w = twice w in
    let whole : x / 2 ^ w * 2 ^ w + x % 2 ^ w ≡ x = shr_split x w in
    let low : x % 2 ^ w < 2 ^ w = mod-lt x (pow_pos w) in
    let high : x / 2 ^ w < 2 = below in
    ap (λ p. nat_le p (2 * x)) e ∙ ap (λ z. nat_le (2 * 2 ^ w) (2 * z)) (sym whole) ∙ top_at (2 ^ w) (x / 2 ^ w) (x % 2 ^ w) low high
  where
    twice : (k : ℕ) → 2 ^ suc k ≡ 2 * 2 ^ k
    twice k = let e : 2 ^ (k + 1) ≡ 2 ^ k * 2 ^ 1 = pow-add 2 k 1 in let g : k + 1 ≡ suc k = omega arith in
        subst (λ m. 2 ^ m ≡ 2 * 2 ^ k) g (omega (arith, e))

    below : x / 2 ^ w < 2
    below = shr_below x 1 w (let g : suc w ≡ 1 + w = omega arith in subst (λ m. x < 2 ^ m) g h)

-- ---- wider words

-- the bits past the width, by the top bit
pub past : Bool → ℕ → ℕ
past b n = cond b (2 ^ n - 1) 0

filled : (x t d f : ℕ) → t ≡ d * f → 0 < d → x + (t - f) ≡ (d - 1) * f + x
filled x t zero f e g = absurd (omega (arith, g))
filled x t (suc d) f e g =
    let k : suc d - 1 ≡ d = omega arith in
    rw k (omega (arith, e))

sext_is : (to from x : ℕ) → from ≤ to → word_sext to from x ≡ past (top_bit from x) (to - from) * 2 ^ from + x
unfolding past
sext_is to from x h = by_top (top_bit from x)
  where
    split : 2 ^ to ≡ 2 ^ (to - from) * 2 ^ from
    split = let e : to ≡ to - from + from = omega (arith, h) in ap (λ m. 2 ^ m) e ∙ pow-add 2 (to - from) from

    by_top : (b : Bool) → x + cond b (2 ^ to - 2 ^ from) 0 ≡ cond b (2 ^ (to - from) - 1) 0 * 2 ^ from + x
    by_top false = omega arith
    by_top true = filled x (2 ^ to) (2 ^ (to - from)) (2 ^ from) split (pow_pos (to - from))

-- A bit of a widened number is its own below the width; past it, 0 or the top bit.
pub widened_low : (signed : Bool) (from to x j : ℕ) → from ≤ to → j < from → is_set (widened signed from to x) j ≡ is_set x j
widened_low false from to x j h g = refl
widened_low true from to x j h g =
    set_from_bit (word_sext to from x) x j j
    (ap (λ z. bit_at z j) (sext_is to from x h) ∙ bit_at_cat_low (past (top_bit from x) (to - from)) from x j g)

pub widened_high : (from to x y j : ℕ) → from ≤ to → from ≤ j → x < 2 ^ from → y < 2 ^ from → is_set (widened false from to x) j ≡ is_set (widened false from to y) j
widened_high from to x y j h g p q = unset_past from x j p g ∙ sym (unset_past from y j q g)

pub signed_bit : (from to x j : ℕ) → from ≤ to → from ≤ j → x < 2 ^ from → is_set (word_sext to from x) j ≡ is_set (past (top_bit from x) (to - from)) (j - from)
signed_bit from to x j h g p =
    set_from_bit (word_sext to from x) (past (top_bit from x) (to - from)) j (j - from)
    (ap (λ z. bit_at z j) (sext_is to from x h) ∙ bit_at_cat_high (past (top_bit from x) (to - from)) from x j p g)

pub widened_signed : (from to x y j : ℕ) → from ≤ to → from ≤ j → x < 2 ^ from → y < 2 ^ from → is_set x (from - 1) ≡ is_set y (from - 1)
    → is_set (widened true from to x) j ≡ is_set (widened true from to y) j
widened_signed zero to x y j h g p q e = let same : x ≡ y = omega (arith, p, q) in ap (λ z. is_set (word_sext to zero z) j) same
widened_signed (suc w) to x y j h g p q e =
    let same : is_set x w ≡ is_set y w = (let k : suc w - 1 ≡ w = omega arith in subst (λ i. is_set x i ≡ is_set y i) k e) in
    let tops : top_bit (suc w) x ≡ top_bit (suc w) y = top_is w x p ∙ same ∙ sym (top_is w y q) in
    signed_bit (suc w) to x j h g p ∙ ap (λ b. is_set (past b (to - suc w)) (j - suc w)) tops ∙ sym (signed_bit (suc w) to y j h g q)

zero_unset : (b : ℕ) → is_set 0 b ≡ false
zero_unset b = grind (arith, nat_tests)

pub top_past : (t : Bool) (n i : ℕ) → i < n → is_set (past t n) i ≡ t
unfolding past
top_past true n i h = ap (λ b. b == 1) (bit_at_ones n i h)
top_past false n i h = zero_unset i

-- ---- copies

pub side_fits : (count n x : ℕ) → x < 2 ^ n → side_by_side count n x < 2 ^ (count * n)
side_fits zero n x h = pow_pos (zero * n)
side_fits (suc c) n x h =
    let more : x * 2 ^ (c * n) + side_by_side c n x < 2 ^ (c * n) * 2 ^ n = mul-add-lt x (2 ^ (c * n)) (side_by_side c n x) (2 ^ n) h (side_fits c n x h) in
    let split : 2 ^ (c * n + n) ≡ 2 ^ (c * n) * 2 ^ n = pow-add 2 (c * n) n in
    let width : c * n + n ≡ suc c * n = omega arith in
    subst (λ k. x * 2 ^ (c * n) + side_by_side c n x < 2 ^ k) width (subst (λ k. x * 2 ^ (c * n) + side_by_side c n x < k) (sym split) more)

side_more : (c n x j rest : ℕ) → j < suc c * n → rest < 2 ^ (c * n) → (j < c * n → is_set rest j ≡ is_set x (j % n)) → (j < c * n) ⊎ (c * n ≤ j)
    → is_set (x * 2 ^ (c * n) + rest) j ≡ is_set x (j % n)
side_more c n x j rest g f k (inl l) = set_from_bit (x * 2 ^ (c * n) + rest) rest j j (bit_at_cat_low x (c * n) rest j l) ∙ k l
side_more c n x j rest g f k (inr l) =
    let low : j - c * n < n = omega (arith, g, l) in
    let split : c * n + (j - c * n) ≡ j = omega (arith, l) in
    let r : (c * n + (j - c * n)) % n ≡ j - c * n = mod-mul-add c n (j - c * n) low in
    set_from_bit (x * 2 ^ (c * n) + rest) x j (j - c * n) (bit_at_cat_high x (c * n) rest j f l) ∙ ap (is_set x) (sym r ∙ ap (λ i. i % n) split)

pub side_bit : (count n x j : ℕ) → x < 2 ^ n → j < count * n → is_set (side_by_side count n x) j ≡ is_set x (j % n)
side_bit zero n x j h g = absurd (omega (arith, g))
side_bit (suc c) n x j h g =
    side_more c n x j (side_by_side c n x) g (side_fits c n x h) (λ l. side_bit c n x j h l) (cases_lt j (c * n))
