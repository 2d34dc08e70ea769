-- Bits of numbers: of parts, of shifted numbers, of numbers with some bits replaced; and two numbers are one or differ at a bit.
use Rattle.std.proofs.Common.{◌≡◌, ◌≢◌, ℕ, zero, suc, ◌+◌, ◌-◌, ◌*◌, ◌/◌, ◌%◌, ◌^◌, ◌<◌, ◌≤◌, Bool, true, false, ◌⊎◌, inl, inr, sym, refl, ap, ◌∙◌, subst, ℤ, pos, negsuc, int_le, int_lt, ◌+ℤ◌, ◌-ℤ◌, IsTrue, arith, pow_pos, mod-lt, shr-shr}
use Rattle.std.specs.Prelude.{◌==◌, ◌&&◌}
use Rattle.std.specs.Int.{bit_at}
use Rattle.std.proofs.lemmas.Bool.{cases_eq}
use Rattle.std.proofs.lemmas.Bool.Decides.{nat_tests}
use Rattle.std.proofs.lemmas.Int.{ints}
use Rattle.std.proofs.lemmas.Nat.{pow-add, shr_split, mul-add-lt}
use Rattle.std.proofs.lemmas.Nat.Bits.{bit_at-lt, bit_at-zero, bit_at_above, bit_at_cat_low, bit_at_cat_high, same_from_bits_below}
use Rattle.verilog_meaning.specs.Expression.{Bits, bits_from}
use Rattle.verilog_meaning.specs.Statement.{with_bits_from, with_bits_at, with_bits}
use Rattle.verilog_meaning.specs.Register.{is_set, is_within}

-- ---- two bits, two numbers

pub alike_or_not : (a b : Bool) → (a ≡ b) ⊎ (a ≢ b)
alike_or_not true true = inl refl
alike_or_not false false = inl refl
alike_or_not true false = inr (λ e. absurd (let f : true ≡ false = e in cc))
alike_or_not false true = inr (λ e. absurd (let f : false ≡ true = e in cc))

bit_from_set : (x y b c : ℕ) → is_set x b ≡ is_set y c → bit_at x b ≡ bit_at y c
bit_from_set x y b c e = from_tests (bit_at x b) (bit_at y c) (bit_at-lt x b) (bit_at-lt y c) e
  where
    from_tests : (m n : ℕ) → m < 2 → n < 2 → (m == 1) ≡ (n == 1) → m ≡ n
    from_tests m n p q e' = grind (arith, nat_tests)

pub set_from_bit : (x y b c : ℕ) → bit_at x b ≡ bit_at y c → is_set x b ≡ is_set y c
set_from_bit x y b c e = ap (λ n. n == 1) e

pub unset_from_bit : (x b : ℕ) → bit_at x b ≡ 0 → is_set x b ≡ false
unset_from_bit x b e = ap (λ n. n == 1) e

-- a place below w at which the numbers have different bits
abbrev pub DifferBelow : ℕ → ℕ → ℕ → Type 0
DifferBelow w x y = (j : ℕ) × (j < w) × (is_set x j ≢ is_set y j)

all_or_one : (w x y : ℕ) → ((j : ℕ) → j < w → is_set x j ≡ is_set y j) ⊎ DifferBelow w x y
all_or_one zero x y = inl (λ j h. absurd (omega (arith, h)))
all_or_one (suc w) x y = at_last (alike_or_not (is_set x w) (is_set y w)) (all_or_one w x y)
  where
    below_or_last : (j : ℕ) → j < suc w → (is_set x w ≡ is_set y w) → ((k : ℕ) → k < w → is_set x k ≡ is_set y k) → (j ≡ w) ⊎ (j ≡ w → ⊥)
        → is_set x j ≡ is_set y j
    below_or_last j h e all (inl p) = subst (λ k. is_set x k ≡ is_set y k) (sym p) e
    below_or_last j h e all (inr n) = all j (let m : j ≢ w = n in omega (arith, h, m))

    at_last : (is_set x w ≡ is_set y w) ⊎ (is_set x w ≢ is_set y w) → ((j : ℕ) → j < w → is_set x j ≡ is_set y j) ⊎ DifferBelow w x y
        → ((j : ℕ) → j < suc w → is_set x j ≡ is_set y j) ⊎ DifferBelow (suc w) x y
    at_last (inr d) r = inr (w, omega arith, d)
    at_last (inl e) (inr d) = inr (d.0, omega (arith, d.1), d.2)
    at_last (inl e) (inl all) = inl (λ j h. below_or_last j h e all (cases_eq j w))

-- Two numbers of w bits are one, or differ at a bit.
pub one_or_differ : (w x y : ℕ) → x < 2 ^ w → y < 2 ^ w → (x ≡ y) ⊎ DifferBelow w x y
one_or_differ w x y p q = found (all_or_one w x y)
  where
    found : ((j : ℕ) → j < w → is_set x j ≡ is_set y j) ⊎ DifferBelow w x y → (x ≡ y) ⊎ DifferBelow w x y
    found (inl all) = inl (same_from_bits_below w x y p q (λ j h. bit_from_set x y j j (all j h)))
    found (inr d) = inr d

-- ---- cut and shifted numbers

pub bit_of_cut : (x n j : ℕ) → j < n → bit_at (x % 2 ^ n) j ≡ bit_at x j
bit_of_cut x n j h = sym (bit_at_cat_low (x / 2 ^ n) n (x % 2 ^ n) j h) ∙ ap (λ y. bit_at y j) (shr_split x n)

pub bit_past_cut : (x n j : ℕ) → n ≤ j → bit_at (x % 2 ^ n) j ≡ 0
bit_past_cut x n j h = bit_at_above (x % 2 ^ n) n j (mod-lt x (pow_pos n)) h

pub bit_of_shifted : (x k j : ℕ) → bit_at (x / 2 ^ k) j ≡ bit_at x (k + j)
bit_of_shifted x k j = ap (λ n. n % 2) (shr-shr x k j)

bit_below_raised : (x k j : ℕ) → j < k → bit_at (x * 2 ^ k) j ≡ 0
bit_below_raised x k j h =
    let e : x * 2 ^ k ≡ x * 2 ^ k + 0 = omega arith in
    ap (λ n. bit_at n j) e ∙ bit_at_cat_low x k 0 j h ∙ bit_at-zero j

bit_of_raised : (x k j : ℕ) → k ≤ j → bit_at (x * 2 ^ k) j ≡ bit_at x (j - k)
bit_of_raised x k j h =
    let e : x * 2 ^ k ≡ x * 2 ^ k + 0 = omega arith in
    ap (λ n. bit_at n j) e ∙ bit_at_cat_high x k 0 j (pow_pos k) h

-- ---- parts

-- The bit at place j of a part is that at the place of the number where it stands, and 0 where there is none.
pub bit_of_part : (low count x j b : ℕ) → j < count → b ≡ low + j → bit_at (bits_from (pos low) count x) j ≡ bit_at x b
bit_of_part low count x j b h e = bit_of_cut (x / 2 ^ low) count j h ∙ bit_of_shifted x low j ∙ ap (bit_at x) (sym e)

pub bit_before_part : (k count x j : ℕ) → j < count → j < k + 1 → bit_at (bits_from (negsuc k) count x) j ≡ 0
bit_before_part k count x j h g = bit_of_cut (x * 2 ^ (k + 1)) count j h ∙ bit_below_raised x (k + 1) j g

pub bit_within_part : (k count x j : ℕ) → j < count → k + 1 ≤ j → bit_at (bits_from (negsuc k) count x) j ≡ bit_at x (j - (k + 1))
bit_within_part k count x j h g = bit_of_cut (x * 2 ^ (k + 1)) count j h ∙ bit_of_raised x (k + 1) j g

-- ---- numbers with some bits replaced

-- the three parts of such a number, before it is cut
pieces : ℕ → ℕ → ℕ → ℕ → ℕ
pieces old k n x = (old / 2 ^ (k + n)) * 2 ^ (k + n) + ((x % 2 ^ n) * 2 ^ k + old % 2 ^ k)

as_pieces : (w old k n x : ℕ) → with_bits_from w old k n x ≡ pieces old k n x % 2 ^ w
unfolding pieces
as_pieces w old k n x =
    ap (λ m. m % 2 ^ w)
    (summed (old % 2 ^ k) (2 ^ k) (x % 2 ^ n) (2 ^ (k + n)) (old / 2 ^ (k + n)))
  where
    summed : (a p m q h : ℕ) → a + p * m + q * h ≡ h * q + (m * p + a)
    summed a p m q h = omega arith

low_pieces : (old k n x : ℕ) → (x % 2 ^ n) * 2 ^ k + old % 2 ^ k < 2 ^ (k + n)
low_pieces old k n x =
    let a : x % 2 ^ n < 2 ^ n = mod-lt x (pow_pos n) in
    let b : old % 2 ^ k < 2 ^ k = mod-lt old (pow_pos k) in
    let e : 2 ^ (k + n) ≡ 2 ^ k * 2 ^ n = pow-add 2 k n in
    let l : (x % 2 ^ n) * 2 ^ k + old % 2 ^ k < 2 ^ k * 2 ^ n = mul-add-lt (x % 2 ^ n) (2 ^ k) (old % 2 ^ k) (2 ^ n) a b in
    omega (arith, e, l)

bit_before : (old k n x b : ℕ) → b < k → bit_at (pieces old k n x) b ≡ bit_at old b
unfolding pieces
bit_before old k n x b h =
    bit_at_cat_low (old / 2 ^ (k + n)) (k + n) ((x % 2 ^ n) * 2 ^ k + old % 2 ^ k) b (let g : b < k + n = omega (arith, h) in g)
    ∙ bit_at_cat_low (x % 2 ^ n) k (old % 2 ^ k) b h ∙ bit_of_cut old k b h

bit_inside : (old k n x b : ℕ) → k ≤ b → b < k + n → bit_at (pieces old k n x) b ≡ bit_at x (b - k)
unfolding pieces
bit_inside old k n x b h g =
    bit_at_cat_low (old / 2 ^ (k + n)) (k + n) ((x % 2 ^ n) * 2 ^ k + old % 2 ^ k) b g
    ∙ bit_at_cat_high (x % 2 ^ n) k (old % 2 ^ k) b (mod-lt old (pow_pos k)) h
    ∙ bit_of_cut x n (b - k) (let l : b - k < n = omega (arith, h, g) in l)

bit_past : (old k n x b : ℕ) → k + n ≤ b → bit_at (pieces old k n x) b ≡ bit_at old b
unfolding pieces
bit_past old k n x b h =
    let e : k + n + (b - (k + n)) ≡ b = omega (arith, h) in
    bit_at_cat_high (old / 2 ^ (k + n)) (k + n) ((x % 2 ^ n) * 2 ^ k + old % 2 ^ k) b (low_pieces old k n x) h
    ∙ bit_of_shifted old (k + n) (b - (k + n)) ∙ ap (bit_at old) e

bit_written : (w old k n x b : ℕ) → b < w → k ≤ b → b < k + n → bit_at (with_bits_from w old k n x) b ≡ bit_at x (b - k)
bit_written w old k n x b l h g = ap (λ m. bit_at m b) (as_pieces w old k n x) ∙ bit_of_cut (pieces old k n x) w b l ∙ bit_inside old k n x b h g

bit_kept : (w old k n x b : ℕ) → b < w → (b < k) ⊎ (k + n ≤ b) → bit_at (with_bits_from w old k n x) b ≡ bit_at old b
bit_kept w old k n x b l (inl h) = ap (λ m. bit_at m b) (as_pieces w old k n x) ∙ bit_of_cut (pieces old k n x) w b l ∙ bit_before old k n x b h
bit_kept w old k n x b l (inr h) = ap (λ m. bit_at m b) (as_pieces w old k n x) ∙ bit_of_cut (pieces old k n x) w b l ∙ bit_past old k n x b h

-- how far bit b stands from the lowest of some bits
pub offset : ℤ → ℕ → ℕ
offset (pos k) b = b - k
offset (negsuc k) b = b + (k + 1)

pub is_offset : (p : Bits) (b : ℕ) → IsTrue (is_within p b) → pos b -ℤ p.low ≡ pos (offset p.low b)
unfolding offset
is_offset p b h = by_low p.low p.count h
  where
    by_low : (low : ℤ) (n : ℕ) → (int_le low (pos b) && int_lt (pos b) (low +ℤ pos n)) ≡ true → pos b -ℤ low ≡ pos (offset low b)
    by_low (pos k) n h' = let l : k ≤ b = grind (arith, ints, nat_tests) in omega (arith, ints, l)
    by_low (negsuc k) n h' = omega (arith, ints)

pub offset_below : (p : Bits) (b : ℕ) → IsTrue (is_within p b) → offset p.low b < p.count
unfolding offset
offset_below p b h = by_low p.low p.count h
  where
    by_low : (low : ℤ) (n : ℕ) → (int_le low (pos b) && int_lt (pos b) (low +ℤ pos n)) ≡ true → offset low b < n
    by_low (pos k) n h' = grind (arith, ints, nat_tests)
    by_low (negsuc k) n h' = grind (arith, ints, nat_tests)

-- A bit that is one of those written gets its bit of the number; another stays.
pub set_written : (w old x b : ℕ) (p : Bits) → b < w → IsTrue (is_within p b) → is_set (with_bits w old p x) b ≡ is_set x (offset p.low b)
unfolding offset
set_written w old x b p l h = set_from_bit (with_bits w old p x) x b (offset p.low b) (by_low p.low p.count h)
  where
    by_low : (low : ℤ) (n : ℕ) → (int_le low (pos b) && int_lt (pos b) (low +ℤ pos n)) ≡ true → bit_at (with_bits_at w old low n x) b ≡ bit_at x (offset low b)
    by_low (pos k) n h' =
        let a : k ≤ b = grind (arith, ints, nat_tests) in
        let c : b < k + n = grind (arith, ints, nat_tests) in
        bit_written w old k n x b l a c
    by_low (negsuc k) n h' =
        let c : b < n - (k + 1) = grind (arith, ints, nat_tests) in
        let e : k + 1 + (b - 0) ≡ b + (k + 1) = omega arith in
        bit_written w old 0 (n - (k + 1)) (x / 2 ^ (k + 1)) b l (omega arith) (omega (arith, c))
        ∙ bit_of_shifted x (k + 1) (b - 0) ∙ ap (bit_at x) e

pub set_kept : (w old x b : ℕ) (p : Bits) → b < w → is_within p b ≡ false → is_set (with_bits w old p x) b ≡ is_set old b
set_kept w old x b p l h = set_from_bit (with_bits w old p x) old b b (by_low p.low p.count h)
  where
    by_low : (low : ℤ) (n : ℕ) → (int_le low (pos b) && int_lt (pos b) (low +ℤ pos n)) ≡ false → bit_at (with_bits_at w old low n x) b ≡ bit_at old b
    by_low (pos k) n h' = bit_kept w old k n x b l (let o : (b < k) ⊎ (k + n ≤ b) = grind (arith, ints, nat_tests) in o)
    by_low (negsuc k) n h' =
        let o : 0 + (n - (k + 1)) ≤ b = grind (arith, ints, nat_tests) in
        bit_kept w old 0 (n - (k + 1)) (x / 2 ^ (k + 1)) b l (inr o)

pub with_bits_fits : (w old x : ℕ) (p : Bits) → with_bits w old p x < 2 ^ w
with_bits_fits w old x p = by_low p.low p.count
  where
    by_low : (low : ℤ) (n : ℕ) → with_bits_at w old low n x < 2 ^ w
    by_low (pos k) n = mod-lt _ (pow_pos w)
    by_low (negsuc k) n = mod-lt _ (pow_pos w)

pub unset_past : (w x b : ℕ) → x < 2 ^ w → w ≤ b → is_set x b ≡ false
unset_past w x b p h = unset_from_bit x b (bit_at_above x w b p h)
