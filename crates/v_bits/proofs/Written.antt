-- Terms that are worth a number with some of its bits replaced.
use Rattle.std.proofs.Common.{◌≡◌, ℕ, ◌+◌, ◌-◌, ◌*◌, ◌/◌, ◌%◌, ◌<◌, ◌≤◌, ◌^◌, max, Bool, true, false, cond, nat_le, refl, sym, ap, ◌∙◌, subst, arith, ℤ, pos, negsuc, ◌-ℤ◌}
use Rattle.std.proofs.Math.Nat.{mod-one, mod-eq_of_lt, mod-add-div}
use Rattle.std.proofs.Math.Pow.{pow_pos}
use Rattle.std.proofs.lemmas.Bool.{false≢true}
use Rattle.std.proofs.lemmas.Int.{ints}
use Rattle.wb_values.specs.Value.{word, Valuation}
use Rattle.wb_values.specs.Number.{word_and, word_or, word_not, word_sub}
use Rattle.verilog_meaning.specs.Expression.{Object, place_of_bit, integer_from, Bits, bits_from, bits_taken}
use Rattle.verilog_meaning.specs.Statement.{with_bits_from, with_bits_at}
use Rattle.wb_terms.specs.Graph.{Graph}
use Rattle.v_operators.specs.Meaning.{Grows, IsOfSort, HasNumber, Makes, Joins}
use Rattle.v_operators.proofs.Growing.{Grows-trans, number_kept}
use Rattle.v_operators.proofs.Testing.{at_most_128}
use Rattle.v_bits.specs.Moving.{near, IsPlace, at_place, below_zero, far_above, far_below, moved, placed}
use Rattle.v_bits.specs.Writing.{Unites, merged, written_from}
use Rattle.v_bits.proofs.Shifting.{HaveRoom, place-sub, place-turned, address_room, near-place, moved-bits}
use Rattle.v_bits.proofs.AtIndexes.{back_room, same_number, wider_fits}
use Rattle.v_bits.proofs.Replacing.{written-bits}

-- ---- at known places

-- the integers that the code takes from one another
pub below_it : (n m : ℕ) (t : Bool) → t ≡ true → pos (n + m + 1) ≡ pos n -ℤ cond t (negsuc m) (pos m)
below_it n m true e = omega (arith, ints)
below_it n m false e = absurd (false≢true e)

pub within_it : (n m : ℕ) (t : Bool) → t ≡ false → m ≤ n → pos (n - m) ≡ pos n -ℤ cond t (negsuc m) (pos m)
within_it n m false e l = omega (arith, ints, l)
within_it n m true e l = absurd (false≢true (sym e))

pub past_it : (n m : ℕ) (t : Bool) → t ≡ false → n < m → negsuc (m - n - 1) ≡ pos n -ℤ cond t (negsuc m) (pos m)
past_it n m false e l = omega (arith, ints, l)
past_it n m true e l = absurd (false≢true (sym e))

pub turned_span : (i : ℤ) (b c : ℕ) (z : ℤ) → i ≡ pos b -ℤ z → ◌≡◌ {A = Bits} (record { low = i -ℤ pos 0; count = c }) (record { low = pos 0 -ℤ (z -ℤ pos b); count = c })
turned_span i b c z e =
    let low : i -ℤ pos 0 ≡ pos 0 -ℤ (z -ℤ pos b) = ap (λ y. y -ℤ pos 0) e ∙ (let q : pos b -ℤ z -ℤ pos 0 ≡ pos 0 -ℤ (z -ℤ pos b) = omega (arith, ints) in q) in
    λ j. record { low = low j; count = c }

-- bits that are all below 0
none_written : (w old x : ℕ) → old < 2 ^ w → with_bits_from w old 0 0 x ≡ old
none_written w old x h =
    let none : x % 2 ^ 0 ≡ 0 = mod-one x in
    let whole : old % 2 ^ 0 + 2 ^ 0 * (x % 2 ^ 0) + 2 ^ (0 + 0) * (old / 2 ^ (0 + 0)) ≡ old =
    ap (λ z. old % 2 ^ 0 + 2 ^ 0 * z + 2 ^ 0 * (old / 2 ^ 0)) none ∙ same (old % 1) (old / 1) old (mod-add-div old 1) in
    ap (λ z. z % 2 ^ w) whole ∙ mod-eq_of_lt {n = old} {m = 2 ^ w} h
  where
    same : (a q s : ℕ) → a + 1 * q ≡ s → a + 1 * 0 + 1 * q ≡ s
    same a q s e = omega (arith, e)

pub far_below_it : (w old n b m x : ℕ) (t : Bool) → t ≡ true → 128 ≤ m → n ≤ 128 → old < 2 ^ w → with_bits_at w old (cond t (negsuc m) (pos m) -ℤ pos b) n x ≡ old
far_below_it w old n b m x true e far few h =
    let low : negsuc m -ℤ pos b ≡ negsuc (m + b) = omega (arith, ints) in
    let none : n - (m + b + 1) ≡ 0 = omega (arith, far, few) in
    ap (λ z. with_bits_at w old z n x) low
    ∙ ap (λ k. with_bits_from w old 0 k (x / 2 ^ (m + b + 1))) none
    ∙ none_written w old (x / 2 ^ (m + b + 1)) h
far_below_it w old n b m x false e far few h = absurd (false≢true e)

pub kept_whole : (g : Graph) (x w y n : ℕ) (f : ℕ → ℕ → ℕ) → IsOfSort g x (word w) → ((a b : ℕ) → a < 2 ^ w → f a b ≡ a) → Joins g g x w y n x w f
kept_whole g x w y n f o same = record { of_sort = o; value = λ p a b u v. subst (λ z. HasNumber g x w p z) (sym (same a b u.fits)) u }

pub fixed_made : (g h i j k : Graph) (x w y n keep rest val id kept : ℕ) (z : ℤ) (b : Bits) → IsOfSort g x (word w) → IsOfSort g y (word n)
    → ◌≡◌ {A = Bits} b (record { low = pos 0 -ℤ z; count = w }) → kept ≡ word_not w (bits_taken (2 ^ n - 1) b)
    → Grows g h → ((p : Valuation) → HasNumber h keep w p kept)
    → Grows h i → Joins h i x w keep w rest w word_and
    → Grows i j → Makes i j y n val w (λ a. bits_taken a b)
    → Joins j k rest w val w id w word_or → Joins g k x w y n id w (λ a c. with_bits_at w a z n c)
fixed_made g h i j k x w y n keep rest val id kept z b o q is_b is_kept gh is_keep hi is_rest ij is_val r =
    record {
      of_sort = r.of_sort;
      value = λ p a c is_a is_c.
          let bits : (m : ℕ) → bits_taken m b ≡ bits_from (pos 0 -ℤ z) w m = λ m. ap (bits_taken m) is_b in
          let at_rest = is_rest.value p a kept (number_kept x w p a gh o.below is_a) (is_keep p) in
          let at_val = is_val.value p c (number_kept y n p c (Grows-trans gh hi) q.below is_c) in
          subst (λ v. HasNumber k id w p v)
          (ap (λ m. word_or (word_and a m) (bits_taken c b)) is_kept
          ∙ ap (λ m. word_or (word_and a (word_not w m)) (bits_taken c b)) (bits (2 ^ n - 1))
          ∙ ap (λ v. word_or (word_and a (word_not w (bits_from (pos 0 -ℤ z) w (2 ^ n - 1)))) v) (bits c)
          ∙ written-bits w n a c z (pos 0 -ℤ z) refl is_a.fits is_c.fits)
          (r.value p (word_and a kept) (bits_taken c b) (number_kept rest w p (word_and a kept) ij is_rest.of_sort.below at_rest) at_val);
    }

-- ---- under a mask

pub merged_made : (g h i k : Graph) (x m v kept rest id w : ℕ) → IsOfSort g x (word w) → IsOfSort g v (word w)
    → Grows g h → Makes g h m w kept w (word_not w) → Grows h i → Joins h i x w kept w rest w word_and → Joins i k rest w v w id w word_or
    → Unites g k x w m w v w id w (merged w)
merged_made g h i k x m v kept rest id w o q gh is_kept hi is_rest r =
    record {
      of_sort = r.of_sort;
      value = λ p a b c is_a is_b is_c.
          r.value p (word_and a (word_not w b)) c (is_rest.value p a (word_not w b) (number_kept x w p a gh o.below is_a) (is_kept.value p b is_b))
          (number_kept v w p c (Grows-trans gh hi) q.below is_c);
    }

-- ---- at the term of an index

weaker : (b c d e : ℕ) (z : ℤ) (a : ℕ) → d ≤ b → c ≤ e → e ≤ 2 ^ 63 → IsPlace b c z a → IsPlace d e z a
weaker b c d e z a less more room (at_place i l) = at_place i (omega (arith, l, more))
weaker b c d e z a less more room (below_zero i l u) = below_zero i (omega (arith, l, more)) u
weaker b c d e z a less more room (far_above k i l m n) = far_above k i (omega (arith, l, less)) (omega (arith, m, less)) (omega (arith, n, less))
weaker b c d e z a less more room (far_below k i l m n) = far_below k i (omega (arith, l, less)) (omega (arith, m, less)) (omega (arith, n, less))

turn_room : HaveRoom (2 ^ 59) (2 ^ 62 + 2 ^ 35) (2 ^ 58) (2 ^ 62 + 2 ^ 36) (2 ^ 33)
turn_room = record { some = omega arith; less = omega arith; more = omega arith; within = omega arith; far = omega arith }

-- the place of the lowest bit
placed-place : (o : Object) (b a : ℕ) (z : ℤ) → o.right < 2 ^ 32 → b ≤ 128 → IsPlace (2 ^ 61) (2 ^ 62) z a → IsPlace (2 ^ 59) (2 ^ 62 + 2 ^ 35) (place_of_bit o z -ℤ pos b) (placed o b a)
placed-place o b a z small back is_a = by_direction (nat_le o.right o.left) where
  by_direction : (t : Bool) → IsPlace (2 ^ 59) (2 ^ 62 + 2 ^ 35) (cond t (z -ℤ pos o.right) (pos o.right -ℤ z) -ℤ pos b) (cond t (word_sub 64 a (o.right + b)) (word_sub 64 (word_sub 64 o.right a) b))
  by_direction true =
      let q = place-sub (2 ^ 61) (2 ^ 62) (2 ^ 60) (2 ^ 62 + 2 ^ 34) (2 ^ 33) (o.right + b) address_room (omega (arith, small, back)) z a is_a in
      let e : z -ℤ pos (o.right + b) ≡ z -ℤ pos o.right -ℤ pos b = omega (arith, ints) in
      weaker (2 ^ 60) (2 ^ 62 + 2 ^ 34) (2 ^ 59) (2 ^ 62 + 2 ^ 35) (z -ℤ pos o.right -ℤ pos b) (word_sub 64 a (o.right + b)) (omega arith) (omega arith) (omega arith)
      (subst (λ y. IsPlace (2 ^ 60) (2 ^ 62 + 2 ^ 34) y (word_sub 64 a (o.right + b))) e q)
  by_direction false =
      let q = place-turned (2 ^ 61) (2 ^ 62) (2 ^ 60) (2 ^ 62 + 2 ^ 34) (2 ^ 33) o.right address_room (omega (arith, small)) z a is_a in
      place-sub (2 ^ 60) (2 ^ 62 + 2 ^ 34) (2 ^ 59) (2 ^ 62 + 2 ^ 35) (2 ^ 33) b back_room (omega (arith, back)) (pos o.right -ℤ z) (word_sub 64 o.right a) q

-- bits that are moved up to it
moved-up : (o : Object) (w n b x a : ℕ) (z : ℤ) → o.right < 2 ^ 32 → b ≤ 128 → w ≤ 128 → n ≤ 128 → x < 2 ^ n → IsPlace (2 ^ 61) (2 ^ 62) z a
    → moved (max n w) w x (word_sub 64 0 (placed o b a)) ≡ bits_from (pos 0 -ℤ (place_of_bit o z -ℤ pos b)) w x
moved-up o w n b x a z small back most few fits is_a =
    let wide : max n w ≤ 128 = omega (arith, most, few) in
    let q = place-turned (2 ^ 59) (2 ^ 62 + 2 ^ 35) (2 ^ 58) (2 ^ 62 + 2 ^ 36) (2 ^ 33) 0 turn_room (omega arith) (place_of_bit o z -ℤ pos b) (placed o b a) (placed-place o b a z small back is_a) in
    moved-bits (2 ^ 58) (2 ^ 62 + 2 ^ 36) (max n w) w x (omega arith) (omega arith) wide (omega arith) (wider_fits x n w fits) (pos 0 -ℤ (place_of_bit o z -ℤ pos b)) (word_sub 64 0 (placed o b a)) q

-- the numbers that the code merges
written-moved : (o : Object) (w n b a x u i : ℕ) (t : Bool) → o.right < 2 ^ 32 → b ≤ 128 → w ≤ 128 → n ≤ 128 → a < 2 ^ w → x < 2 ^ n → i < 2 ^ u
    → merged w a (moved (max n w) w (2 ^ n - 1) (word_sub 64 0 (placed o b (near t u i)))) (moved (max n w) w x (word_sub 64 0 (placed o b (near t u i)))) ≡ written_from o b n t u w a x i
written-moved o w n b a x u i t small back most few old fits index =
    let is_near = near-place t u i index in
    let ones : 2 ^ n - 1 < 2 ^ n = omega (arith, pow_pos n) in
    let y : ℤ = pos 0 -ℤ (place_of_bit o (integer_from t u i) -ℤ pos b) in
    ap (λ m. merged w a m (moved (max n w) w x (word_sub 64 0 (placed o b (near t u i))))) (moved-up o w n b (2 ^ n - 1) (near t u i) (integer_from t u i) small back most few ones is_near)
    ∙ ap (λ m. merged w a (bits_from y w (2 ^ n - 1)) m) (moved-up o w n b x (near t u i) (integer_from t u i) small back most few fits is_near)
    ∙ written-bits w n a x (place_of_bit o (integer_from t u i) -ℤ pos b) y refl old fits

pub way_made : (g h i k : Graph) (x u close place id b : ℕ) (t : Bool) (o : Object) → Makes g h x u close 64 (near t u) → Makes h i close 64 place 64 (placed o b) → Makes i k place 64 id 64 (λ a. word_sub 64 0 a)
    → Makes g k x u id 64 (λ a. word_sub 64 0 (placed o b (near t u a)))
way_made g h i k x u close place id b t o m q r = record { of_sort = r.of_sort; value = λ p a is_a. r.value p (placed o b (near t u a)) (q.value p (near t u a) (m.value p a is_a)) }

pub moving_written_made : (g h i j k l : Graph) (x w y n base u up all mask val id b : ℕ) (t : Bool) (o : Object)
    → IsOfSort g x (word w) → IsOfSort g y (word n) → b ≤ 128 → o.right < 2 ^ 32
    → Grows g h → Makes g h base u up 64 (λ a. word_sub 64 0 (placed o b (near t u a)))
    → Grows h i → ((p : Valuation) → HasNumber i all n p (2 ^ n - 1))
    → Grows i j → Joins i j all n up 64 mask w (moved (max n w) w)
    → Grows j k → Joins j k y n up 64 val w (moved (max n w) w)
    → Unites k l x w mask w val w id w (merged w)
    → Unites g l x w y n base u id w (written_from o b n t u w)
moving_written_made g h i j k l x w y n base u up all mask val id b t o is_x is_y back small gh is_up hi is_all ij is_mask jk is_val r =
    record {
      of_sort = r.of_sort;
      value = λ p a c d is_a is_c is_d.
          let m : ℕ = word_sub 64 0 (placed o b (near t u d)) in
          let gj : Grows g j = Grows-trans gh (Grows-trans hi ij) in
          let at_up = is_up.value p d is_d in
          let at_mask = is_mask.value p (2 ^ n - 1) m (is_all p) (number_kept up 64 p m hi is_up.of_sort.below at_up) in
          let at_val = is_val.value p c m (number_kept y n p c gj is_y.below is_c) (number_kept up 64 p m (Grows-trans hi ij) is_up.of_sort.below at_up) in
          subst (λ v. HasNumber l id w p v)
          (written-moved o w n b a c u d t small back (at_most_128 g x w is_x) (at_most_128 g y n is_y) is_a.fits is_c.fits is_d.fits)
          (r.value p a (moved (max n w) w (2 ^ n - 1) m) (moved (max n w) w c m) (number_kept x w p a (Grows-trans gj jk) is_x.below is_a)
          (number_kept mask w p (moved (max n w) w (2 ^ n - 1) m) jk is_mask.of_sort.below at_mask) at_val);
    }

-- ---- at either

pub known_united : (g h : Graph) (x w y n i u id v : ℕ) (f : ℕ → ℕ → ℕ → ℕ) → ((p : Valuation) → HasNumber g i u p v) → Joins g h x w y n id w (λ a b. f a b v) → Unites g h x w y n i u id w f
known_united g h x w y n i u id v f is_v m =
    record {
      of_sort = m.of_sort;
      value = λ p a b c is_a is_b is_c. subst (λ z. HasNumber h id w p (f a b z)) (same_number v c (sym (is_v p).value ∙ is_c.value)) (m.value p a b is_a is_b);
    }

pub joins_so : (g h : Graph) (x u y v id w : ℕ) (f k : ℕ → ℕ → ℕ) → ((a b : ℕ) → f a b ≡ k a b) → Joins g h x u y v id w f → Joins g h x u y v id w k
joins_so g h x u y v id w f k same m = record { of_sort = m.of_sort; value = λ p a b is_a is_b. subst (λ z. HasNumber h id w p z) (same a b) (m.value p a b is_a is_b) }
