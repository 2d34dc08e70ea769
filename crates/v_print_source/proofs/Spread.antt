-- Numbers that share no bit: how digits are joined, cut and filled.
use Rattle.std.proofs.Common.{◌≡◌, ℕ, ◌+◌, ◌*◌, ◌-◌, ◌/◌, ◌%◌, ◌^◌, ◌<◌, ◌≤◌, min, refl, sym, ap, ◌∙◌, subst, arith, inl, inr}
use Rattle.std.proofs.lemmas.Bool.{cases_lt}
use Rattle.std.proofs.lemmas.Nat.{pow_pos, pow-add, shr-shr, shr_split, field_of, mod_below, mod_low, shr_high, mul-add-lt}
use Rattle.std.proofs.Math.Nat.{mod-eq_of_lt, zero-div, zero-mod, pow-le-pow_right}
use Rattle.v_print.specs.Spelled.{bit_of}

same_sum : (a b c x y z : ℕ) → a ≡ x → b ≡ y → c ≡ z → x + y + z ≤ 1 → a + b + c ≤ 1
same_sum a b c x y z e f g h = omega (arith, e, f, g, h)

less_sum : (a b c x y z : ℕ) → a ≤ x → b ≤ y → c ≤ z → x + y + z ≤ 1 → a + b + c ≤ 1
less_sum a b c x y z e f g h = omega (arith, e, f, g, h)

one_of : (a b c : ℕ) → a ≡ 0 → b ≡ 0 → c < 2 → a + b + c ≤ 1
one_of a b c e f h = omega (arith, e, f, h)

same_le : (a b : ℕ) → a ≡ b → a ≤ b
same_le a b e = omega (arith, e)

none_le : (a b : ℕ) → a ≡ 0 → a ≤ b
none_le a b e = omega (arith, e)

-- ---- bits

pub bit_small : (n k : ℕ) → bit_of n k < 2
bit_small n k = mod_below (n / 2 ^ k) 2 (omega arith)

pub bit_zero : (k : ℕ) → bit_of 0 k ≡ 0
bit_zero k = ap (λ (n : ℕ). n % 2) (zero-div (2 ^ k)) ∙ zero-mod 2

low_mod : (a d j : ℕ) → (a * 2 ^ j + d) % 2 ^ j ≡ d % 2 ^ j
low_mod a d j =
    ap (λ (n : ℕ). n % 2 ^ j) (together a (d / 2 ^ j) (2 ^ j) (d % 2 ^ j) d (shr_split d j))
    ∙ mod_low (a + d / 2 ^ j) j (d % 2 ^ j) (mod_below d (2 ^ j) (pow_pos j))
  where
    together : (a q m r d : ℕ) → q * m + r ≡ d → a * m + d ≡ (a + q) * m + r
    together a q m r d e = omega (arith, e)

bit_by : (n k : ℕ) → bit_of n k ≡ n % 2 ^ (1 + k) / 2 ^ k
bit_by n k = sym (field_of n 1 k)

low_bit : (n d p k : ℕ) → k < p → bit_of (n * 2 ^ p + d) k ≡ bit_of d k
low_bit n d p k h =
    let j = p - (1 + k) in
    let c : p ≡ j + (1 + k) = omega (arith, h) in
    let e : 2 ^ p ≡ 2 ^ j * 2 ^ (1 + k) = ap (λ (i : ℕ). 2 ^ i) c ∙ pow-add 2 j (1 + k) in
    bit_by (n * 2 ^ p + d) k
    ∙ ap (λ (x : ℕ). x % 2 ^ (1 + k) / 2 ^ k) (turned n (2 ^ p) (2 ^ j) (2 ^ (1 + k)) d e)
    ∙ ap (λ (x : ℕ). x / 2 ^ k) (low_mod (n * 2 ^ j) d (1 + k))
    ∙ sym (bit_by d k)
  where
    turned : (n m a b d : ℕ) → m ≡ a * b → n * m + d ≡ n * a * b + d
    turned n m a b d e = ap (λ (x : ℕ). n * x + d) e ∙ omega arith

high_bit : (n d p k : ℕ) → d < 2 ^ p → p ≤ k → bit_of (n * 2 ^ p + d) k ≡ bit_of n (k - p)
high_bit n d p k h l =
    let c : k ≡ p + (k - p) = omega (arith, l) in
    ap (λ (x : ℕ). x % 2)
    (ap (λ (i : ℕ). (n * 2 ^ p + d) / 2 ^ i) c ∙ sym (shr-shr (n * 2 ^ p + d) p (k - p)) ∙ ap (λ (x : ℕ). x / 2 ^ (k - p)) (shr_high n p d h))

no_bit : (d m k : ℕ) → d < 2 ^ m → m ≤ k → bit_of d k ≡ 0
no_bit d m k h l =
    let e : d ≡ 0 * 2 ^ m + d = omega arith in
    ap (λ (x : ℕ). bit_of x k) e ∙ high_bit 0 d m k h l ∙ bit_zero (k - m)

cut_bit : (n w k : ℕ) → bit_of (n % 2 ^ w) k ≤ bit_of n k
cut_bit n w k = elim (cases_lt k w) [
  | inl h ↦
      same_le (bit_of (n % 2 ^ w) k) (bit_of n k) (sym (low_bit (n / 2 ^ w) (n % 2 ^ w) w k h) ∙ ap (λ (x : ℕ). bit_of x k) (shr_split n w))
  | inr h ↦
      none_le (bit_of (n % 2 ^ w) k) (bit_of n k) (no_bit (n % 2 ^ w) w k (mod_below n (2 ^ w) (pow_pos w)) h)
]

-- ---- three numbers

-- They fit so many bits, and no bit is of two of them.
pub record IsSpread (bits v u w : ℕ) : Type 0 where
  pub value_fits : v < 2 ^ bits
  pub unknown_fits : u < 2 ^ bits
  pub wild_fits : w < 2 ^ bits
  pub apart : (k : ℕ) → bit_of v k + bit_of u k + bit_of w k ≤ 1

pub value_alone : (v u w k : ℕ) → u ≡ 0 → w ≡ 0 → bit_of v k + bit_of u k + bit_of w k ≤ 1
value_alone v u w k e f = by (bit_of v k) (bit_of u k) (bit_of w k) (bit_small v k) (ap (λ (x : ℕ). bit_of x k) e ∙ bit_zero k) (ap (λ (x : ℕ). bit_of x k) f ∙ bit_zero k)
  where
    by : (a b c : ℕ) → a < 2 → b ≡ 0 → c ≡ 0 → a + b + c ≤ 1
    by a b c h e f = omega (arith, h, e, f)

pub unknown_alone : (v u w k : ℕ) → v ≡ 0 → w ≡ 0 → bit_of v k + bit_of u k + bit_of w k ≤ 1
unknown_alone v u w k e f = by (bit_of v k) (bit_of u k) (bit_of w k) (bit_small u k) (ap (λ (x : ℕ). bit_of x k) e ∙ bit_zero k) (ap (λ (x : ℕ). bit_of x k) f ∙ bit_zero k)
  where
    by : (a b c : ℕ) → b < 2 → a ≡ 0 → c ≡ 0 → a + b + c ≤ 1
    by a b c h e f = omega (arith, h, e, f)

pub wild_alone : (v u w k : ℕ) → v ≡ 0 → u ≡ 0 → bit_of v k + bit_of u k + bit_of w k ≤ 1
wild_alone v u w k e f = one_of (bit_of v k) (bit_of u k) (bit_of w k) (ap (λ (x : ℕ). bit_of x k) e ∙ bit_zero k) (ap (λ (x : ℕ). bit_of x k) f ∙ bit_zero k) (bit_small w k)

pub nothing_spread : IsSpread 0 0 0 0
nothing_spread = record { value_fits = pow_pos 0; unknown_fits = pow_pos 0; wild_fits = pow_pos 0; apart = λ k. value_alone 0 0 0 k refl refl }

further : (x a b : ℕ) → x < a → a ≤ b → x < b
further x a b h l = omega (arith, h, l)

larger : (i j : ℕ) → i ≤ j → 2 ^ i ≤ 2 ^ j
larger i j h = pow-le-pow_right {n = 2} (omega arith) {i = i} {j = j} h

turned : (x y : ℕ) → x * y ≡ y * x
turned x y = omega arith

joined_fits : (b p n d : ℕ) → n < 2 ^ b → d < 2 ^ p → n * 2 ^ p + d < 2 ^ (b + p)
joined_fits b p n d h g = by n d (2 ^ b) (2 ^ p) (2 ^ (b + p)) (pow-add 2 b p) h g
  where
    by : (n d x y z : ℕ) → z ≡ x * y → n < x → d < y → n * y + d < z
    by n d x y z e h g = subst (λ q. n * y + d < q) (sym (e ∙ turned x y)) (mul-add-lt n y d x h g)

-- a digit more
pub joined_spread : (b p v u w dv du dw : ℕ) → IsSpread b v u w → IsSpread p dv du dw → IsSpread (b + p) (v * 2 ^ p + dv) (u * 2 ^ p + du) (w * 2 ^ p + dw)
joined_spread b p v u w dv du dw s d = record {
  value_fits = joined_fits b p v dv s.value_fits d.value_fits;
  unknown_fits = joined_fits b p u du s.unknown_fits d.unknown_fits;
  wild_fits = joined_fits b p w dw s.wild_fits d.wild_fits;
  apart = λ k. elim (cases_lt k p) [
    | inl h ↦
        same_sum (bit_of (v * 2 ^ p + dv) k) (bit_of (u * 2 ^ p + du) k) (bit_of (w * 2 ^ p + dw) k) (bit_of dv k) (bit_of du k) (bit_of dw k)
        (low_bit v dv p k h) (low_bit u du p k h) (low_bit w dw p k h) (d.apart k)
    | inr h ↦
        same_sum (bit_of (v * 2 ^ p + dv) k) (bit_of (u * 2 ^ p + du) k) (bit_of (w * 2 ^ p + dw) k) (bit_of v (k - p)) (bit_of u (k - p)) (bit_of w (k - p))
        (high_bit v dv p k d.value_fits h) (high_bit u du p k d.unknown_fits h) (high_bit w dw p k d.wild_fits h) (s.apart (k - p))
  ];
}

pub widened : (m n v u w : ℕ) → m ≤ n → IsSpread m v u w → IsSpread n v u w
widened m n v u w h s =
    let l = larger m n h in
    record {
      value_fits = further v (2 ^ m) (2 ^ n) s.value_fits l;
      unknown_fits = further u (2 ^ m) (2 ^ n) s.unknown_fits l;
      wild_fits = further w (2 ^ m) (2 ^ n) s.wild_fits l;
      apart = s.apart;
    }

-- cut at a width
cut_at : (n v u w : ℕ) → ((k : ℕ) → bit_of v k + bit_of u k + bit_of w k ≤ 1) → IsSpread n (v % 2 ^ n) (u % 2 ^ n) (w % 2 ^ n)
cut_at n v u w apart = record {
  value_fits = mod_below v (2 ^ n) (pow_pos n);
  unknown_fits = mod_below u (2 ^ n) (pow_pos n);
  wild_fits = mod_below w (2 ^ n) (pow_pos n);
  apart = λ k.
      less_sum (bit_of (v % 2 ^ n) k) (bit_of (u % 2 ^ n) k) (bit_of (w % 2 ^ n) k) (bit_of v k) (bit_of u k) (bit_of w k)
      (cut_bit v n k) (cut_bit u n k) (cut_bit w n k) (apart k);
}

kept : (m n x : ℕ) → m ≤ n → x < 2 ^ m → x % 2 ^ n < 2 ^ m
kept m n x h l =
    let g = larger m n h in
    let below = further x (2 ^ m) (2 ^ n) l g in
    subst (λ q. q < 2 ^ m) (sym (mod-eq_of_lt below)) l

pub cut : (b n v u w : ℕ) → IsSpread b v u w → IsSpread (min b n) (v % 2 ^ n) (u % 2 ^ n) (w % 2 ^ n)
cut b n v u w s = elim (cases_lt n b) [
  | inl h ↦
      let e : n ≡ min b n = omega (arith, h) in
      subst (λ m. IsSpread m (v % 2 ^ n) (u % 2 ^ n) (w % 2 ^ n)) e (cut_at n v u w s.apart)
  | inr h ↦
      let e : b ≡ min b n = omega (arith, h) in
      let c = cut_at n v u w s.apart in
      subst (λ m. IsSpread m (v % 2 ^ n) (u % 2 ^ n) (w % 2 ^ n)) e
      (record { value_fits = kept b n v h s.value_fits; unknown_fits = kept b n u h s.unknown_fits; wild_fits = kept b n w h s.wild_fits; apart = c.apart })
]

-- all bits from one up to a width
filling : (m n : ℕ) → m ≤ n → (2 ^ (n - m) - 1) * 2 ^ m + 2 ^ m ≡ 2 ^ n
filling m n h =
    let c : n ≡ (n - m) + m = omega (arith, h) in
    by (2 ^ (n - m)) (2 ^ m) (2 ^ n) (ap (λ (i : ℕ). 2 ^ i) c ∙ pow-add 2 (n - m) m) (pow_pos (n - m))
  where
    by : (a b z : ℕ) → z ≡ a * b → 0 < a → (a - 1) * b + b ≡ z
    by a b z e h =
        let s : a ≡ (a - 1) + 1 = omega (arith, h) in
        let d : a * b ≡ ((a - 1) + 1) * b = ap (λ (x : ℕ). x * b) s in
        let o : ((a - 1) + 1) * b ≡ (a - 1) * b + b = opened (a - 1) b in
        sym (e ∙ d ∙ o)
      where
        opened : (q b : ℕ) → (q + 1) * b ≡ q * b + b
        opened q b = omega arith

pub filled : (m n v u w : ℕ) → m ≤ n → IsSpread m v u w → IsSpread n v u (w + (2 ^ n - 2 ^ m))
filled m n v u w h s =
    let q = 2 ^ (n - m) - 1 in
    let whole = filling m n h in
    let l = larger m n h in
    let is : w + (2 ^ n - 2 ^ m) ≡ q * 2 ^ m + w = by w (2 ^ n) (2 ^ m) (q * 2 ^ m) whole in
    subst (λ x. IsSpread n v u x) (sym is) (record {
      value_fits = further v (2 ^ m) (2 ^ n) s.value_fits l;
      unknown_fits = further u (2 ^ m) (2 ^ n) s.unknown_fits l;
      wild_fits = below (q * 2 ^ m) (2 ^ m) (2 ^ n) w whole s.wild_fits;
      apart = λ k. elim (cases_lt k m) [
        | inl g ↦
            same_sum (bit_of v k) (bit_of u k) (bit_of (q * 2 ^ m + w) k) (bit_of v k) (bit_of u k) (bit_of w k) refl refl (low_bit q w m k g) (s.apart k)
        | inr g ↦
            one_of (bit_of v k) (bit_of u k) (bit_of (q * 2 ^ m + w) k) (no_bit v m k s.value_fits g) (no_bit u m k s.unknown_fits g) (bit_small (q * 2 ^ m + w) k)
      ];
    })
  where
    by : (w x y z : ℕ) → z + y ≡ x → w + (x - y) ≡ z + w
    by w x y z e = omega (arith, e)

    below : (z y x w : ℕ) → z + y ≡ x → w < y → z + w < x
    below z y x w e h = omega (arith, e, h)
