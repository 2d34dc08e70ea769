-- Bits of a number that are replaced by masks.
use Rattle.std.proofs.Common.{◌≡◌, ℕ, zero, suc, ◌+◌, ◌-◌, ◌*◌, ◌/◌, ◌%◌, ◌<◌, ◌≤◌, ◌^◌, min, max, sym, ap, ◌∙◌, subst, arith, ⊎_elim, ℤ, pos, negsuc, ◌-ℤ◌, bit_and, pow-suc}
use Rattle.std.specs.Int.{bit_at}
use Rattle.std.proofs.Math.Nat.{mod-lt, mod-add-div, div-eq_of_lt, div-one}
use Rattle.std.proofs.Math.Pow.{pow_mono, pow_pos, pow-add, shr_lt}
use Rattle.std.proofs.lemmas.Bool.{cases_lt}
use Rattle.std.proofs.lemmas.Int.{ints}
use Rattle.std.proofs.lemmas.Nat.{shr-shr, or_lt, and_le_l}
use Rattle.std.proofs.lemmas.Nat.Bits.{bit_at_lowest, bit_at-suc, bit_at_and, bit_at_or, bit_at-lt, bit_at-zero, bit_at_ones, bit_at_ones_above, bit_at_above, bit_at_cat_low, bit_at_cat_high, same_from_bits_below, ones_shr}
use Rattle.wb_values.specs.Number.{word_and, word_or, word_not}
use Rattle.verilog_meaning.specs.Expression.{bits_from}
use Rattle.verilog_meaning.specs.Statement.{with_bits_from, with_bits_at}

-- ---- bits of a complement, of what is cut, and of what is moved

not_bit : (w x i : ℕ) → x < 2 ^ w → i < w → bit_at (2 ^ w - 1 - x) i ≡ 1 - bit_at x i
not_bit zero x i h l = absurd (omega (arith, l))
not_bit (suc w) x zero h l =
    bit_at_lowest (2 ^ suc w - 1 - x) ∙ (let e : (2 ^ suc w - 1 - x) % 2 ≡ 1 - x % 2 = omega (arith, h, pow-suc 2 w) in e) ∙ ap (λ b. 1 - b) (sym (bit_at_lowest x))
not_bit (suc w) x (suc i) h l =
    let half : (2 ^ suc w - 1 - x) / 2 ≡ 2 ^ w - 1 - x / 2 = omega (arith, h, pow-suc 2 w) in
    let small : x / 2 < 2 ^ w = omega (arith, h, pow-suc 2 w) in
    bit_at-suc (2 ^ suc w - 1 - x) i ∙ ap (λ n. bit_at n i) half ∙ not_bit w (x / 2) i small (omega (arith, l)) ∙ ap (λ b. 1 - b) (sym (bit_at-suc x i))

mod_below : (x n : ℕ) → x % 2 ^ n < 2 ^ n
mod_below x n = mod-lt x (pow_pos n)

cut_bit : (w n i : ℕ) → i < w → bit_at (n % 2 ^ w) i ≡ bit_at n i
cut_bit w n i l =
    let e : n ≡ n / 2 ^ w * 2 ^ w + n % 2 ^ w = omega (arith, mod-add-div n (2 ^ w)) in
    sym (bit_at_cat_low (n / 2 ^ w) w (n % 2 ^ w) i l) ∙ ap (λ m. bit_at m i) (sym e)

down_bit : (n k i : ℕ) → bit_at (n / 2 ^ k) i ≡ bit_at n (k + i)
down_bit n k i = ap (λ m. m % 2) (shr-shr n k i)

up_low : (x k i : ℕ) → i < k → bit_at (x * 2 ^ k) i ≡ 0
up_low x k i l =
    let e : x * 2 ^ k ≡ x * 2 ^ k + 0 = omega arith in
    ap (λ m. bit_at m i) e ∙ bit_at_cat_low x k 0 i l ∙ bit_at-zero i

up_high : (x k i : ℕ) → k ≤ i → bit_at (x * 2 ^ k) i ≡ bit_at x (i - k)
up_high x k i l =
    let e : x * 2 ^ k ≡ x * 2 ^ k + 0 = omega arith in
    ap (λ m. bit_at m i) e ∙ bit_at_cat_high x k 0 i (pow_pos k) l

-- ---- bits of a number with some replaced

module _ (w old k n x : ℕ) where
  blocks : old % 2 ^ k + 2 ^ k * (x % 2 ^ n) + 2 ^ (k + n) * (old / 2 ^ (k + n)) ≡ (old / 2 ^ (k + n) * 2 ^ n + x % 2 ^ n) * 2 ^ k + old % 2 ^ k
  blocks = ap (λ p. old % 2 ^ k + 2 ^ k * (x % 2 ^ n) + p * (old / 2 ^ (k + n))) (pow-add 2 k n) ∙ same (old % 2 ^ k) (2 ^ k) (x % 2 ^ n) (2 ^ n) (old / 2 ^ (k + n)) where
    same : (l p y q h : ℕ) → l + p * y + p * q * h ≡ (h * q + y) * p + l
    same l p y q h = omega arith

  replaced : (i : ℕ) → i < w → bit_at (with_bits_from w old k n x) i ≡ bit_at ((old / 2 ^ (k + n) * 2 ^ n + x % 2 ^ n) * 2 ^ k + old % 2 ^ k) i
  replaced i l = cut_bit w (old % 2 ^ k + 2 ^ k * (x % 2 ^ n) + 2 ^ (k + n) * (old / 2 ^ (k + n))) i l ∙ ap (λ m. bit_at m i) blocks

  replaced_low : (i : ℕ) → i < w → i < k → bit_at (with_bits_from w old k n x) i ≡ bit_at old i
  replaced_low i l h = replaced i l ∙ bit_at_cat_low (old / 2 ^ (k + n) * 2 ^ n + x % 2 ^ n) k (old % 2 ^ k) i h ∙ cut_bit k old i h

  replaced_within : (i : ℕ) → i < w → k ≤ i → i < k + n → bit_at (with_bits_from w old k n x) i ≡ bit_at x (i - k)
  replaced_within i l h u =
      let below : i - k < n = omega (arith, h, u) in
      replaced i l
      ∙ bit_at_cat_high (old / 2 ^ (k + n) * 2 ^ n + x % 2 ^ n) k (old % 2 ^ k) i (mod_below old k) h
      ∙ bit_at_cat_low (old / 2 ^ (k + n)) n (x % 2 ^ n) (i - k) below
      ∙ cut_bit n x (i - k) below

  replaced_high : (i : ℕ) → i < w → k + n ≤ i → bit_at (with_bits_from w old k n x) i ≡ bit_at old i
  replaced_high i l h =
      let from : k ≤ i = omega (arith, h) in
      let above : n ≤ i - k = omega (arith, h) in
      let e : k + n + (i - k - n) ≡ i = omega (arith, h) in
      replaced i l
      ∙ bit_at_cat_high (old / 2 ^ (k + n) * 2 ^ n + x % 2 ^ n) k (old % 2 ^ k) i (mod_below old k) from
      ∙ bit_at_cat_high (old / 2 ^ (k + n)) n (x % 2 ^ n) (i - k) (mod_below x n) above
      ∙ down_bit old (k + n) (i - k - n)
      ∙ ap (bit_at old) e

-- ---- by masks

merged_bit : (w old m x i : ℕ) → m < 2 ^ w → i < w → bit_at (word_or (word_and old (word_not w m)) x) i ≡ max (min (bit_at old i) (1 - bit_at m i)) (bit_at x i)
merged_bit w old m x i h l =
    bit_at_or (word_and old (word_not w m)) x i ∙ ap (λ b. max b (bit_at x i)) (bit_at_and old (word_not w m) i ∙ ap (min (bit_at old i)) (not_bit w m i h l))

merged_fits : (w old m x : ℕ) → old < 2 ^ w → x < 2 ^ w → word_or (word_and old (word_not w m)) x < 2 ^ w
merged_fits w old m x h l = (let below : bit_and old (2 ^ w - 1 - m) < 2 ^ w = omega (arith, h, and_le_l old (2 ^ w - 1 - m)) in or_lt w (bit_and old (2 ^ w - 1 - m)) x below l)

module _ (w n old x k : ℕ) (fits : old < 2 ^ w) (few : x < 2 ^ n) where
  abbrev mask : ℕ
  mask = (2 ^ n - 1) * 2 ^ k % 2 ^ w

  abbrev moved : ℕ
  moved = x * 2 ^ k % 2 ^ w

  at_bit : (i : ℕ) → i < w → bit_at (word_or (word_and old (word_not w mask)) moved) i ≡ bit_at (with_bits_from w old k n x) i
  at_bit i l =
      merged_bit w old mask moved i (mod_below ((2 ^ n - 1) * 2 ^ k) w) l
      ∙ ⊎_elim
      (λ under.
      let m : bit_at mask i ≡ 0 = cut_bit w ((2 ^ n - 1) * 2 ^ k) i l ∙ up_low (2 ^ n - 1) k i under in
      let v : bit_at moved i ≡ 0 = cut_bit w (x * 2 ^ k) i l ∙ up_low x k i under in
      let r : bit_at (with_bits_from w old k n x) i ≡ bit_at old i = replaced_low w old k n x i l under in
      omega (arith, m, v, r, bit_at-lt old i))
      (λ from. ⊎_elim
      (λ inside.
      let m : bit_at mask i ≡ 1 = cut_bit w ((2 ^ n - 1) * 2 ^ k) i l ∙ up_high (2 ^ n - 1) k i from ∙ bit_at_ones n (i - k) (omega (arith, inside, from)) in
      let v : bit_at moved i ≡ bit_at x (i - k) = cut_bit w (x * 2 ^ k) i l ∙ up_high x k i from in
      let r : bit_at (with_bits_from w old k n x) i ≡ bit_at x (i - k) = replaced_within w old k n x i l from inside in
      omega (arith, m, v, r))
      (λ past.
      let above : n ≤ i - k = omega (arith, past) in
      let m : bit_at mask i ≡ 0 = cut_bit w ((2 ^ n - 1) * 2 ^ k) i l ∙ up_high (2 ^ n - 1) k i from ∙ bit_at_ones_above n (i - k) above in
      let v : bit_at moved i ≡ 0 = cut_bit w (x * 2 ^ k) i l ∙ up_high x k i from ∙ bit_at_above x n (i - k) few above in
      let r : bit_at (with_bits_from w old k n x) i ≡ bit_at old i = replaced_high w old k n x i l past in
      omega (arith, m, v, r, bit_at-lt old i))
      (cases_lt i (k + n)))
      (cases_lt i k)

  raised : word_or (word_and old (word_not w mask)) moved ≡ with_bits_from w old k n x
  raised =
      same_from_bits_below w (word_or (word_and old (word_not w mask)) moved) (with_bits_from w old k n x)
      (merged_fits w old mask moved fits (mod_below (x * 2 ^ k) w)) (mod_below (old % 2 ^ k + 2 ^ k * (x % 2 ^ n) + 2 ^ (k + n) * (old / 2 ^ (k + n))) w) at_bit

-- from a place below 0 on
rest_fits : (n x k : ℕ) → x < 2 ^ n → x / 2 ^ k < 2 ^ (n - k)
rest_fits n x k h =
    ⊎_elim
    (λ lt. let e : n - k + k ≡ n = omega (arith, lt) in shr_lt (n - k) k (subst (λ j. x < 2 ^ j) (sym e) h))
    (λ le.
    let p : 2 ^ n ≤ 2 ^ k = pow_mono le in
    let none : x / 2 ^ k ≡ 0 = div-eq_of_lt (omega (arith, h, p)) in
    subst (λ y. y < 2 ^ (n - k)) (sym none) (pow_pos (n - k)))
    (cases_lt k n)

ones_left : (n k : ℕ) → (2 ^ n - 1) / 2 ^ k ≡ 2 ^ (n - k) - 1
ones_left n k =
    ⊎_elim
    (λ lt. ones_shr n k (omega (arith, lt)))
    (λ le.
    let p : 2 ^ n ≤ 2 ^ k = pow_mono le in
    let none : (2 ^ n - 1) / 2 ^ k ≡ 0 = div-eq_of_lt (omega (arith, p, pow_pos n)) in
    let e : n - k ≡ 0 = omega (arith, le) in
    none ∙ sym (ap (λ j. 2 ^ j - 1) e))
    (cases_lt k n)

still : (a w : ℕ) → a % 2 ^ w ≡ a * 2 ^ 0 % 2 ^ w
still a w = let e : a ≡ a * 1 = omega arith in ap (λ b. b % 2 ^ w) e

module _ (w n old x : ℕ) (fits : old < 2 ^ w) (few : x < 2 ^ n) where
  abbrev merged : ℤ → ℕ
  merged y = word_or (word_and old (word_not w (bits_from y w (2 ^ n - 1)))) (bits_from y w x)

  lowered : (k : ℕ) → merged (pos (suc k)) ≡ with_bits_at w old (negsuc k) n x
  lowered k =
      let one : suc k ≡ k + 1 = omega arith in
      let rest : ℕ = n - (k + 1) in
      let part : ℕ = x / 2 ^ (k + 1) in
      ap (λ j. word_or (word_and old (word_not w ((2 ^ n - 1) / 2 ^ j % 2 ^ w))) (x / 2 ^ j % 2 ^ w)) one
      ∙ ap (λ m. word_or (word_and old (word_not w (m % 2 ^ w))) (part % 2 ^ w)) (ones_left n (k + 1))
      ∙ ap (λ m. word_or (word_and old (word_not w m)) (part % 2 ^ w)) (still (2 ^ rest - 1) w)
      ∙ ap (λ v. word_or (word_and old (word_not w ((2 ^ rest - 1) * 2 ^ 0 % 2 ^ w))) v) (still part w)
      ∙ raised w rest old part 0 fits (rest_fits n x (k + 1) few)

  at_zero : merged (pos 0) ≡ with_bits_at w old (pos 0) n x
  at_zero =
      ap (λ m. word_or (word_and old (word_not w (m % 2 ^ w))) (x / 2 ^ 0 % 2 ^ w)) (div-one (2 ^ n - 1))
      ∙ ap (λ v. word_or (word_and old (word_not w ((2 ^ n - 1) % 2 ^ w))) (v % 2 ^ w)) (div-one x)
      ∙ ap (λ m. word_or (word_and old (word_not w m)) (x % 2 ^ w)) (still (2 ^ n - 1) w)
      ∙ ap (λ v. word_or (word_and old (word_not w ((2 ^ n - 1) * 2 ^ 0 % 2 ^ w))) v) (still x w)
      ∙ raised w n old x 0 fits few

  raised_by : (k : ℕ) → merged (negsuc k) ≡ with_bits_at w old (pos (k + 1)) n x
  raised_by k = raised w n old x (k + 1) fits few

  turned : (z y : ℤ) → y ≡ pos 0 -ℤ z → merged y ≡ with_bits_at w old z n x
  turned (pos zero) y e = ap merged (e ∙ (let q : pos 0 -ℤ pos 0 ≡ pos 0 = omega (arith, ints) in q)) ∙ at_zero
  turned (pos (suc k)) y e =
      let q : pos 0 -ℤ pos (suc k) ≡ negsuc k = omega (arith, ints) in
      let one : k + 1 ≡ suc k = omega arith in
      ap merged (e ∙ q) ∙ raised_by k ∙ ap (λ j. with_bits_at w old (pos j) n x) one
  turned (negsuc k) y e =
      let q : pos 0 -ℤ negsuc k ≡ pos (suc k) = omega (arith, ints) in
      ap merged (e ∙ q) ∙ lowered k

-- A number with the bits from place z on replaced: those under a mask go, and the new ones come.
pub written-bits : (w n old x : ℕ) (z y : ℤ) → y ≡ pos 0 -ℤ z → old < 2 ^ w → x < 2 ^ n
    → word_or (word_and old (word_not w (bits_from y w (2 ^ n - 1)))) (bits_from y w x) ≡ with_bits_at w old z n x
written-bits w n old x z y e fits few = turned w n old x fits few z y e
