-- Bits at places that are known only when the term is worth something.
use Rattle.std.proofs.Common.{◌≡◌, ℕ, ◌+◌, ◌-◌, ◌*◌, ◌/◌, ◌%◌, ◌<◌, ◌≤◌, ◌^◌, min, Bool, true, false, cond, ◌==◌, nat_le, refl, sym, ap, ◌∙◌, subst, arith, ⊎_elim, ℤ, pos, negsuc, ◌-ℤ◌}
use Rattle.std.proofs.Math.Nat.{mod-lt, mod-eq_of_lt, add-mod_right, div-eq_of_lt, div-one, mul-mod_left, zero-mod, eq-zero-or-pos}
use Rattle.std.proofs.Math.Pow.{pow_mono, pow_pos, pow-add, mod-mod-pow}
use Rattle.std.proofs.lemmas.Bool.{cases_lt}
use Rattle.std.proofs.lemmas.Int.{ints}
use borrow.Author.Tests.{leb-true, leb-false, eqb-true, eqb-false, lt-leb, le-leb}
use Rattle.std.proofs.lemmas.Nat.{mod_low}
use lib.Bits.{or_zero_l, or_zero_r, or_self}
use Rattle.wb_values.specs.Number.{top_bit, word_or, word_neg, word_sub}
use Rattle.verilog_meaning.specs.Expression.{widened, integer_from, bits_from}
use Rattle.v_value.proofs.Bits.{below}
use Rattle.v_bits.specs.Moving.{near, IsPlace, at_place, below_zero, far_above, far_below, moved}

-- ---- differences of words of 64 bits

sub_low : (a d : ℕ) → d ≤ a → a < 2 ^ 64 → word_sub 64 a d ≡ a - d
sub_low a d l h =
    let e : a + (2 ^ 64 - d) ≡ a - d + 2 ^ 64 = omega (arith, l, h) in
    ap (λ k. k % 2 ^ 64) e ∙ add-mod_right (a - d) (2 ^ 64) ∙ mod-eq_of_lt {n = a - d} {m = 2 ^ 64} (omega (arith, h))

sub_wrapped : (a d : ℕ) → a < d → d ≤ 2 ^ 64 → word_sub 64 a d ≡ a + (2 ^ 64 - d)
sub_wrapped a d l h = mod-eq_of_lt {n = a + (2 ^ 64 - d)} {m = 2 ^ 64} (omega (arith, l, h))

-- bounds of a place that is moved by at most e
pub record HaveRoom (b c b2 c2 e : ℕ) : Type 0 where
  pub some : 1 ≤ b2
  pub less : b2 + e ≤ b
  pub more : c + e < c2
  pub within : c2 ≤ 2 ^ 63
  pub far : b ≤ 2 ^ 62

-- the room that an address of at most 33 bits needs
pub address_room : HaveRoom (2 ^ 61) (2 ^ 62) (2 ^ 60) (2 ^ 62 + 2 ^ 34) (2 ^ 33)
address_room = record { some = omega arith; less = omega arith; more = omega arith; within = omega arith; far = omega arith }

module _ (b c b2 c2 e d : ℕ) (room : HaveRoom b c b2 c2 e) (h : d ≤ e) where
  pub place-sub : (z : ℤ) (a : ℕ) → IsPlace b c z a → IsPlace b2 c2 (z -ℤ pos d) (word_sub 64 a d)
  place-sub z a (at_place i l) =
      ⊎_elim
      (λ lt. subst (IsPlace b2 c2 (z -ℤ pos d)) (sym (sub_wrapped a d lt (omega (arith, h, room.more, room.within))))
      (below_zero (ap (λ y. y -ℤ pos d) i ∙ (let w : d ≤ 2 ^ 64 = omega (arith, h, room.more, room.within) in omega (arith, ints, w))) (omega (arith, h, room.more, room.within)) (omega (arith, lt, h, room.more, room.within))))
      (λ le. subst (IsPlace b2 c2 (z -ℤ pos d)) (sym (sub_low a d le (omega (arith, l, room.more, room.within))))
      (at_place (ap (λ y. y -ℤ pos d) i ∙ omega (arith, ints, le)) (omega (arith, l, room.more))))
      (cases_lt a d)
  place-sub z a (below_zero i l u) =
      let le : d ≤ a = omega (arith, h, l, room.more, room.within) in
      subst (IsPlace b2 c2 (z -ℤ pos d)) (sym (sub_low a d le u))
      (below_zero (ap (λ y. y -ℤ pos d) i ∙ omega (arith, ints, le)) (omega (arith, h, l, room.more, room.within)) (omega (arith, u)))
  place-sub z a (far_above k i l m n) =
      let le : d ≤ a = omega (arith, h, m, room.less) in
      let lk : d ≤ k = omega (arith, h, l, room.less) in
      let u : a < 2 ^ 64 = omega (arith, m, n, h, room.less, room.far) in
      subst (IsPlace b2 c2 (z -ℤ pos d)) (sym (sub_low a d le (omega (arith, n, m))))
      (far_above (k - d) (ap (λ y. y -ℤ pos d) i ∙ omega (arith, ints, lk)) (omega (arith, h, l, room.less)) (omega (arith, h, m, room.less)) (omega (arith, h, n, room.less, room.far)))
  place-sub z a (far_below k i l m n) =
      let le : d ≤ a = omega (arith, h, m, room.less) in
      subst (IsPlace b2 c2 (z -ℤ pos d)) (sym (sub_low a d le (omega (arith, n, m))))
      (far_below (k + d) (ap (λ y. y -ℤ pos d) i ∙ omega (arith, ints)) (omega (arith, h, l, room.less)) (omega (arith, h, m, room.less)) (omega (arith, h, n, room.less, room.far)))

  pub place-turned : (z : ℤ) (a : ℕ) → IsPlace b c z a → IsPlace b2 c2 (pos d -ℤ z) (word_sub 64 d a)
  place-turned z a (at_place i l) =
      ⊎_elim
      (λ lt. subst (IsPlace b2 c2 (pos d -ℤ z)) (sym (sub_wrapped d a lt (omega (arith, l, room.more, room.within))))
      (below_zero (ap (λ y. pos d -ℤ y) i ∙ (let w : a ≤ 2 ^ 64 = omega (arith, l, room.more, room.within) in omega (arith, ints, w))) (omega (arith, l, room.more, room.within)) (omega (arith, lt, l, room.more, room.within))))
      (λ le. subst (IsPlace b2 c2 (pos d -ℤ z)) (sym (sub_low d a le (omega (arith, h, room.more, room.within))))
      (at_place (ap (λ y. pos d -ℤ y) i ∙ omega (arith, ints, le)) (omega (arith, h, room.more))))
      (cases_lt d a)
  place-turned z a (below_zero i l u) =
      let lt : d < a = omega (arith, h, l, room.more, room.within) in
      subst (IsPlace b2 c2 (pos d -ℤ z)) (sym (sub_wrapped d a lt (omega (arith, u))))
      (at_place (ap (λ y. pos d -ℤ y) i ∙ omega (arith, ints, u)) (omega (arith, h, l, u, room.more, room.within)))
  place-turned z a (far_above k i l m n) =
      let lt : d < a = omega (arith, h, m, room.less, room.some) in
      let lk : d ≤ k = omega (arith, h, l, room.less) in
      subst (IsPlace b2 c2 (pos d -ℤ z)) (sym (sub_wrapped d a lt (omega (arith, n))))
      (far_below (k - d) (ap (λ y. pos d -ℤ y) i ∙ omega (arith, ints, lk)) (omega (arith, h, l, room.less)) (omega (arith, n, m, room.less, room.far)) (omega (arith, h, n, m, room.less, room.far)))
  place-turned z a (far_below k i l m n) =
      let lt : d < a = omega (arith, h, m, room.less, room.some) in
      subst (IsPlace b2 c2 (pos d -ℤ z)) (sym (sub_wrapped d a lt (omega (arith, n))))
      (far_above (d + k) (ap (λ y. pos d -ℤ y) i ∙ omega (arith, ints)) (omega (arith, h, l, room.less)) (omega (arith, n, m, room.less, room.far)) (omega (arith, h, n, m, room.less, room.far)))

-- ---- an index as a word of 64 bits

widened-near : (t : Bool) (w i : ℕ) → w ≤ 62 → i < 2 ^ w → IsPlace (2 ^ 61) (2 ^ 62) (integer_from t w i) (widened t w 64 i)
widened-near false w i l h = let more : 2 ^ w ≤ 2 ^ 62 = pow_mono l in at_place refl (omega (arith, h, more))
widened-near true w i l h = by_top (top_bit w i) refl where
  more : 2 ^ w ≤ 2 ^ 62
  more = pow_mono l

  by_top : (q : Bool) → top_bit w i ≡ q → IsPlace (2 ^ 61) (2 ^ 62) (cond q (pos i -ℤ pos (2 ^ w)) (pos i)) (i + cond q (2 ^ 64 - 2 ^ w) 0)
  by_top true e = let s : 2 ^ w ≤ 2 * i = leb-true _ _ e in below_zero (omega (arith, ints, more)) (omega (arith, s, h, more)) (omega (arith, s, h, more))
  by_top false e = at_place (omega (arith, ints)) (omega (arith, h, more))

module _ (w i : ℕ) (wide : 62 < w) (fits : i < 2 ^ w) where
  power : 2 ^ 62 ≤ 2 ^ w
  power = let l : 62 ≤ w = omega (arith, wide) in pow_mono l

  power_twice : 2 ^ 63 ≤ 2 ^ w
  power_twice = let l : 63 ≤ w = omega (arith, wide) in pow_mono l

  -- an unsigned one
  unsigned-near : (q : Bool) → (i % 2 ^ 62 == i) ≡ q → IsPlace (2 ^ 61) (2 ^ 62) (pos i) (cond q (i % 2 ^ 62) (2 ^ 62))
  unsigned-near true e =
      let same : i % 2 ^ 62 ≡ i = eqb-true _ _ e in
      let small : i % 2 ^ 62 < 2 ^ 62 = mod-lt i (pow_pos 62) in
      at_place (ap (λ k. pos k) (sym same)) small
  unsigned-near false e =
      ⊎_elim (λ lt. absurd (eqb-false _ _ e (mod-eq_of_lt {n = i} {m = 2 ^ 62} lt)))
      (λ le. far_above i refl (omega (arith, le)) (omega arith) (omega arith)) (cases_lt i (2 ^ 62))

  -- a signed one that is as long already
  kept-near : (p q : Bool) (r : ℕ) → top_bit 62 r ≡ p → top_bit w i ≡ q → r < 2 ^ 62 → r + cond p (2 ^ w - 2 ^ 62) 0 ≡ i
      → IsPlace (2 ^ 61) (2 ^ 62) (cond q (pos i -ℤ pos (2 ^ w)) (pos i)) (r + cond p (2 ^ 64 - 2 ^ 62) 0)
  kept-near true true r e f l s =
      let low : 2 ^ 62 ≤ 2 * r = leb-true _ _ e in
      let t : r + (2 ^ w - 2 ^ 62) ≡ i = s in
      below_zero (omega (arith, ints, t, power)) (omega (arith, low)) (omega (arith, l))
  kept-near true false r e f l s =
      let low : 2 ^ 62 ≤ 2 * r = leb-true _ _ e in
      let not_top : 2 * i < 2 ^ w = leb-false _ _ f in
      absurd (omega (arith, low, not_top, s, power_twice))
  kept-near false true r e f l s =
      let not_low : 2 * r < 2 ^ 62 = leb-false _ _ e in
      let top : 2 ^ w ≤ 2 * i = leb-true _ _ f in
      absurd (omega (arith, not_low, top, s, power))
  kept-near false false r e f l s = at_place (let t : r + 0 ≡ i = s in ap (λ k. pos k) (sym t)) (omega (arith, l))

  -- one that is not
  far-near : (q : Bool) → top_bit w i ≡ q → (widened true 62 w (i % 2 ^ 62) ≡ i → ⊥) → IsPlace (2 ^ 61) (2 ^ 62) (cond q (pos i -ℤ pos (2 ^ w)) (pos i)) (2 ^ 62)
  far-near false f other =
      ⊎_elim
      (λ lt.
      let r : i % 2 ^ 62 ≡ i = mod-eq_of_lt {n = i} {m = 2 ^ 62} (omega (arith, lt)) in
      let t : top_bit 62 i ≡ false = lt-leb _ _ (omega (arith, lt)) in
      absurd (other (ap (λ k. widened true 62 w k) r ∙ (ap (λ b. i + cond b (2 ^ w - 2 ^ 62) 0) t ∙ omega arith))))
      (λ le. far_above i refl le (omega arith) (omega arith)) (cases_lt i (2 ^ 61))
  far-near true f other =
      ⊎_elim
      (λ lt.
      let split : 2 ^ w ≡ 2 ^ (w - 62) * 2 ^ 62 = (let e : w - 62 + 62 ≡ w = omega (arith, wide) in ap (λ k. 2 ^ k) (sym e) ∙ pow-add 2 (w - 62) 62) in
      let some : 0 < 2 ^ (w - 62) = pow_pos (w - 62) in
      let parts : i ≡ (2 ^ (w - 62) - 1) * 2 ^ 62 + (2 ^ 62 - (2 ^ w - i)) = omega (arith, split, some, lt, fits, power) in
      let r : i % 2 ^ 62 ≡ 2 ^ 62 - (2 ^ w - i) = ap (λ k. k % 2 ^ 62) parts ∙ mod_low (2 ^ (w - 62) - 1) 62 (2 ^ 62 - (2 ^ w - i)) (omega (arith, fits)) in
      let t : top_bit 62 (2 ^ 62 - (2 ^ w - i)) ≡ true = le-leb _ _ (omega (arith, lt)) in
      absurd (other (ap (λ k. widened true 62 w k) r ∙ (ap (λ b. 2 ^ 62 - (2 ^ w - i) + cond b (2 ^ w - 2 ^ 62) 0) t ∙ omega (arith, lt, fits, power)))))
      (λ le. far_below (2 ^ w - i) (omega (arith, ints, fits)) le (omega arith) (omega arith)) (cases_lt (2 ^ w - i) (2 ^ 61))

  signed-near : (q : Bool) → (widened true 62 w (i % 2 ^ 62) == i) ≡ q → IsPlace (2 ^ 61) (2 ^ 62) (integer_from true w i) (cond q (widened true 62 64 (i % 2 ^ 62)) (2 ^ 62))
  signed-near true e = kept-near (top_bit 62 (i % 2 ^ 62)) (top_bit w i) (i % 2 ^ 62) refl refl (mod-lt i (pow_pos 62)) (eqb-true _ _ e)
  signed-near false e = far-near (top_bit w i) refl (eqb-false _ _ e)

  wide-near : (t : Bool) → IsPlace (2 ^ 61) (2 ^ 62) (integer_from t w i) (cond (widened t 62 w (i % 2 ^ 62) == i) (widened t 62 64 (i % 2 ^ 62)) (2 ^ 62))
  wide-near true = signed-near (widened true 62 w (i % 2 ^ 62) == i) refl
  wide-near false = unsigned-near (i % 2 ^ 62 == i) refl

pub near-place : (t : Bool) (w i : ℕ) → i < 2 ^ w → IsPlace (2 ^ 61) (2 ^ 62) (integer_from t w i) (near t w i)
near-place t w i h = by_width (nat_le w 62) refl where
  by_width : (q : Bool) → nat_le w 62 ≡ q → IsPlace (2 ^ 61) (2 ^ 62) (integer_from t w i)
      (cond q (widened t w 64 i) (cond (widened t 62 w (i % 2 ^ 62) == i) (widened t 62 64 (i % 2 ^ 62)) (2 ^ 62)))
  by_width true e = widened-near t w i (leb-true _ _ e) h
  by_width false e = wide-near w i (leb-false _ _ e) h t

-- ---- bits at such a place

-- shifts by the width or more
right_none : (m x k : ℕ) → x < 2 ^ m → m ≤ k → x / 2 ^ min k m ≡ 0
right_none m x k h l = (let e : min k m ≡ m = omega (arith, l) in ap (λ j. x / 2 ^ j) e) ∙ div-eq_of_lt h

left_none : (m x k : ℕ) → m ≤ k → x * 2 ^ min k m % 2 ^ m ≡ 0
left_none m x k l = (let e : min k m ≡ m = omega (arith, l) in ap (λ j. x * 2 ^ j % 2 ^ m) e) ∙ mul-mod_left x (2 ^ m)

-- those that are fewer change nothing about the others
right_same : (m x k : ℕ) → x < 2 ^ m → x / 2 ^ min k m ≡ x / 2 ^ k
right_same m x k h =
    ⊎_elim (λ lt. let e : min k m ≡ k = omega (arith, lt) in ap (λ j. x / 2 ^ j) e)
    (λ le. right_none m x k h le ∙ sym (div-eq_of_lt (let p : 2 ^ m ≤ 2 ^ k = pow_mono le in omega (arith, h, p)))) (cases_lt k m)

left_same : (m n x k : ℕ) → n ≤ m → x * 2 ^ min k m % 2 ^ m % 2 ^ n ≡ x * 2 ^ k % 2 ^ n
left_same m n x k l =
    ⊎_elim
    (λ lt.
    let e : min k m ≡ k = omega (arith, lt) in
    let s : m - n + n ≡ m = omega (arith, l) in
    ap (λ j. x * 2 ^ j % 2 ^ m % 2 ^ n) e ∙ subst (λ j. x * 2 ^ k % 2 ^ j % 2 ^ n ≡ x * 2 ^ k % 2 ^ n) s (mod-mod-pow (x * 2 ^ k) (m - n) n))
    (λ le.
    let q : n ≤ k = omega (arith, l, le) in
    ap (λ j. j % 2 ^ n) (left_none m x k le) ∙ (zero-mod (2 ^ n) ∙ below x k n q))
    (cases_lt k m)

module _ (b c m n x : ℕ) (some : 128 ≤ b) (room : c ≤ 2 ^ 63) (most : m ≤ 128) (less : n ≤ m) (fits : x < 2 ^ m) where
  neg_is : (a : ℕ) → 0 < a → word_neg 64 a ≡ 2 ^ 64 - a
  neg_is a h = mod-eq_of_lt {n = 2 ^ 64 - a} {m = 2 ^ 64} (omega (arith, h))

  -- where nothing comes from above, and where nothing comes from below
  only_right : (a r : ℕ) → m ≤ word_neg 64 a → x / 2 ^ min a m ≡ r → moved m n x a ≡ r % 2 ^ n
  only_right a r l e = ap (λ k. word_or (x / 2 ^ min a m) k % 2 ^ n) (left_none m x (word_neg 64 a) l) ∙ (ap (λ k. k % 2 ^ n) (or_zero_r (x / 2 ^ min a m)) ∙ ap (λ k. k % 2 ^ n) e)

  only_left : (a : ℕ) → m ≤ a → moved m n x a ≡ x * 2 ^ min (word_neg 64 a) m % 2 ^ m % 2 ^ n
  only_left a l = ap (λ k. word_or k (x * 2 ^ min (word_neg 64 a) m % 2 ^ m) % 2 ^ n) (right_none m x a fits l) ∙ ap (λ k. k % 2 ^ n) (or_zero_l (x * 2 ^ min (word_neg 64 a) m % 2 ^ m))

  -- at place 0 both are the number itself
  still : moved m n x 0 ≡ x / 2 ^ 0 % 2 ^ n
  still =
      let zero_right : min 0 m ≡ 0 = omega arith in
      let same_right : x / 2 ^ min 0 m ≡ x = ap (λ k. x / 2 ^ k) zero_right ∙ div-one x in
      let zero_left : min (word_neg 64 0) m ≡ 0 = zero_right in
      let once : x * 1 ≡ x = omega arith in
      let same_left : x * 2 ^ min (word_neg 64 0) m % 2 ^ m ≡ x = ap (λ k. x * 2 ^ k % 2 ^ m) zero_left ∙ (ap (λ k. k % 2 ^ m) once ∙ mod-eq_of_lt {n = x} {m = 2 ^ m} fits) in
      ap (λ k. word_or k (x * 2 ^ min (word_neg 64 0) m % 2 ^ m) % 2 ^ n) same_right ∙ (ap (λ k. word_or x k % 2 ^ n) same_left ∙ (ap (λ k. k % 2 ^ n) (or_self x) ∙ ap (λ k. k % 2 ^ n) (sym (div-one x))))

  at : (a : ℕ) → a < c → moved m n x a ≡ x / 2 ^ a % 2 ^ n
  at a l =
      ⊎_elim (λ e. subst (λ k. moved m n x k ≡ x / 2 ^ k % 2 ^ n) (sym e) still)
      (λ h. only_right a (x / 2 ^ a) (subst (λ k. m ≤ k) (sym (neg_is a h)) (omega (arith, most, l, room))) (right_same m x a fits)) (eq-zero-or-pos a)

  below_it : (a : ℕ) → 2 ^ 64 - c ≤ a → a < 2 ^ 64 → moved m n x a ≡ x * 2 ^ (2 ^ 64 - a) % 2 ^ n
  below_it a l u =
      let h : 0 < a = omega (arith, l, room) in
      only_left a (omega (arith, most, l, room)) ∙ (ap (λ k. x * 2 ^ min k m % 2 ^ m % 2 ^ n) (neg_is a h) ∙ left_same m n x (2 ^ 64 - a) less)

  nothing : (a : ℕ) → b ≤ a → a ≤ 2 ^ 64 - b → moved m n x a ≡ 0
  nothing a l u =
      let h : 0 < a = omega (arith, l, some) in
      only_left a (omega (arith, most, l, some))
      ∙ (ap (λ k. k % 2 ^ n) (left_none m x (word_neg 64 a) (subst (λ k. m ≤ k) (sym (neg_is a h)) (omega (arith, most, l, u, some)))) ∙ zero-mod (2 ^ n))

  none_above : (k : ℕ) → b ≤ k → x / 2 ^ k % 2 ^ n ≡ 0
  none_above k l = ap (λ j. j % 2 ^ n) (div-eq_of_lt (let q : m ≤ k = omega (arith, most, l, some) in let p : 2 ^ m ≤ 2 ^ k = pow_mono q in omega (arith, fits, p))) ∙ zero-mod (2 ^ n)

  none_below : (k : ℕ) → b ≤ k → x * 2 ^ k % 2 ^ n ≡ 0
  none_below k l = sym (below x k n (omega (arith, most, less, l, some)))

  pub moved-bits : (z : ℤ) (a : ℕ) → IsPlace b c z a → moved m n x a ≡ bits_from z n x
  moved-bits z a (at_place i l) = at a l ∙ ap (λ y. bits_from y n x) (sym i)
  moved-bits z a (below_zero i l u) =
      let y : z ≡ negsuc (2 ^ 64 - a - 1) = i ∙ omega (arith, ints, u) in
      let e : 2 ^ 64 - a - 1 + 1 ≡ 2 ^ 64 - a = omega (arith, u) in
      below_it a l u ∙ (ap (λ k. x * 2 ^ k % 2 ^ n) (sym e) ∙ ap (λ y. bits_from y n x) (sym y))
  moved-bits z a (far_above k i j l u) = nothing a l u ∙ (sym (none_above k j) ∙ ap (λ y. bits_from y n x) (sym i))
  moved-bits z a (far_below k i j l u) =
      let y : z ≡ negsuc (k - 1) = i ∙ (let s : 1 ≤ k = omega (arith, j, some) in omega (arith, ints, s)) in
      let e : k - 1 + 1 ≡ k = omega (arith, j, some) in
      nothing a l u ∙ (sym (none_below k j) ∙ (ap (λ k. x * 2 ^ k % 2 ^ n) (sym e) ∙ ap (λ y. bits_from y n x) (sym y)))
