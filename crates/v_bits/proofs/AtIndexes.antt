-- Bits that selects take by the terms of their indexes.
use Rattle.std.proofs.Common.{◌≡◌, ℕ, ◌+◌, ◌<◌, ◌≤◌, ◌^◌, max, Bool, true, false, cond, ◌&&◌, nat_le, nat_lt, Option, Some, None, refl, sym, ap, ◌∙◌, subst, arith, ℤ, pos, ◌-ℤ◌}
use Rattle.std.proofs.Math.Pow.{pow_mono}
use Rattle.std.proofs.lemmas.Bool.{false≢true}
use Rattle.std.proofs.lemmas.Bool.Decides.{nat_tests}
use Rattle.std.proofs.lemmas.Int.{ints}
use borrow.Author.Tests.{lt-leb, le-leb}
use Rattle.wb_values.specs.Value.{Sort, word, number, as_number, Valuation}
use Rattle.wb_values.specs.Number.{word_sub}
use Rattle.wb_values.specs.Choice.{some_if}
use Rattle.model_meaning.specs.Term.{const, is_width, sort_of, val}
use Rattle.verilog_meaning.specs.Expression.{Object, integer_from, bits_from}
use Rattle.wb_terms.specs.Graph.{Graph, tree}
use Rattle.v_operators.specs.Meaning.{Grows, IsOfSort, HasNumber, Makes, Joins}
use Rattle.v_operators.proofs.Growing.{Grows-trans, number_kept}
use Rattle.v_operators.proofs.Testing.{at_most_128}
use Rattle.v_bits.specs.Moving.{near, IsPlace, moved, placed, taken_from}
use Rattle.v_bits.proofs.Places.{makes_so, then_made}
use Rattle.v_bits.proofs.Shifting.{HaveRoom, address_room, place-sub, place-turned, near-place, moved-bits}

-- ---- constants

constant_facts : (b : Bool) (v w : ℕ) → some_if b (word v) ≡ Some (word w) → (b ≡ true) × (v ≡ w)
constant_facts true v w e = (refl, ap width e) where
  width : Option Sort → ℕ
  width (Some (word w)) = w
  width _ = 0
constant_facts false v w e = absurd (clash e) where
  is_there : Option Sort → Bool
  is_there (Some s) = true
  is_there None = false

  clash : None ≡ Some (word w) → ⊥
  clash e = false≢true (ap is_there e)

right_part : (a b : Bool) → a && b ≡ true → b ≡ true
right_part true b h = h
right_part false b h = absurd (false≢true h)

below_of : (m n : ℕ) → nat_lt m n ≡ true → m < n
below_of m n h = grind (arith, nat_tests, h)

pub constant_known : (g : Graph) (id w v x : ℕ) → IsOfSort g id (word w) → tree g id ≡ const v x → (p : Valuation) → HasNumber g id w p x
constant_known g id w v x o e p =
    let f = constant_facts (is_width v && nat_lt x (2 ^ v)) v w (sym (ap sort_of e) ∙ o.sort) in
    let l : x < 2 ^ v = below_of x (2 ^ v) (right_part (is_width v) (nat_lt x (2 ^ v)) f.0) in
    record { value = ap (λ t. val t p) e; fits = subst (λ k. x < 2 ^ k) f.1 l }

-- a number that is known stands in place of the index
pub same_number : (x y : ℕ) → number x ≡ number y → x ≡ y
same_number x y e = ap as_number e

pub known_joined : (g h : Graph) (x w i u id n y : ℕ) (f : ℕ → ℕ → ℕ) → ((p : Valuation) → HasNumber g i u p y) → Makes g h x w id n (λ a. f a y) → Joins g h x w i u id n f
known_joined g h x w i u id n y f is_y m =
    record {
      of_sort = m.of_sort;
      value = λ p a b r q. subst (λ z. HasNumber h id n p (f a z)) (same_number y b (sym (is_y p).value ∙ q.value)) (m.value p a r);
    }

pub known_bound : (g : Graph) (i u y : ℕ) → ((p : Valuation) → HasNumber g i u p y) → y < 2 ^ u
known_bound g i u y k = (k (λ n. number 0)).fits

-- ---- places

pub placed_down : (g h : Graph) (x id l r b : ℕ) (o : Object) → o.left ≡ l → o.right ≡ r → r ≤ l → Makes g h x 64 id 64 (λ a. word_sub 64 a (r + b)) → Makes g h x 64 id 64 (placed o b)
placed_down g h x id l r b o is_l is_r le m =
    let e : nat_le o.right o.left ≡ true = le-leb _ _ (omega (arith, is_l, is_r, le)) in
    makes_so g h x 64 id 64 (λ a. word_sub 64 a (r + b)) (placed o b)
    (λ a i. ap (λ z. word_sub 64 a (z + b)) (sym is_r) ∙ ap (λ t. cond t (word_sub 64 a (o.right + b)) (word_sub 64 (word_sub 64 o.right a) b)) (sym e)) m

pub placed_up : (g h k : Graph) (x y id l r b : ℕ) (o : Object) → o.left ≡ l → o.right ≡ r → l < r → Makes g h x 64 y 64 (λ a. word_sub 64 r a) → Makes h k y 64 id 64 (λ a. word_sub 64 a b) → Makes g k x 64 id 64 (placed o b)
placed_up g h k x y id l r b o is_l is_r lt m n =
    let e : nat_le o.right o.left ≡ false = lt-leb _ _ (omega (arith, is_l, is_r, lt)) in
    makes_so g k x 64 id 64 (λ a. word_sub 64 (word_sub 64 r a) b) (placed o b)
    (λ a i. ap (λ z. word_sub 64 (word_sub 64 z a) b) (sym is_r) ∙ ap (λ t. cond t (word_sub 64 a (o.right + b)) (word_sub 64 (word_sub 64 o.right a) b)) (sym e))
    (then_made g h k x 64 y 64 id 64 (λ a. word_sub 64 r a) (λ a. word_sub 64 a b) m n)

pub back_room : HaveRoom (2 ^ 60) (2 ^ 62 + 2 ^ 34) (2 ^ 59) (2 ^ 62 + 2 ^ 35) (2 ^ 33)
back_room = record { some = omega arith; less = omega arith; more = omega arith; within = omega arith; far = omega arith }

-- the bits from there on
placed-bits : (o : Object) (m n b x a : ℕ) (z : ℤ) → o.right < 2 ^ 32 → b ≤ 128 → m ≤ 128 → n ≤ m → x < 2 ^ m → IsPlace (2 ^ 61) (2 ^ 62) z a → moved m n x (placed o b a) ≡ taken_from o b n z x
placed-bits o m n b x a z small back most less fits is_a = by_direction (nat_le o.right o.left) where
  by_direction : (t : Bool) → moved m n x (cond t (word_sub 64 a (o.right + b)) (word_sub 64 (word_sub 64 o.right a) b)) ≡ bits_from (cond t (z -ℤ pos o.right) (pos o.right -ℤ z) -ℤ pos b) n x
  by_direction true =
      let q = place-sub (2 ^ 61) (2 ^ 62) (2 ^ 60) (2 ^ 62 + 2 ^ 34) (2 ^ 33) (o.right + b) address_room (omega (arith, small, back)) z a is_a in
      let e : z -ℤ pos (o.right + b) ≡ z -ℤ pos o.right -ℤ pos b = omega (arith, ints) in
      moved-bits (2 ^ 60) (2 ^ 62 + 2 ^ 34) m n x (omega arith) (omega arith) most less fits (z -ℤ pos (o.right + b)) (word_sub 64 a (o.right + b)) q ∙ ap (λ y. bits_from y n x) e
  by_direction false =
      let q = place-turned (2 ^ 61) (2 ^ 62) (2 ^ 60) (2 ^ 62 + 2 ^ 34) (2 ^ 33) o.right address_room (omega (arith, small)) z a is_a in
      let r = place-sub (2 ^ 60) (2 ^ 62 + 2 ^ 34) (2 ^ 59) (2 ^ 62 + 2 ^ 35) (2 ^ 33) b back_room (omega (arith, back)) (pos o.right -ℤ z) (word_sub 64 o.right a) q in
      moved-bits (2 ^ 59) (2 ^ 62 + 2 ^ 35) m n x (omega arith) (omega arith) most less fits (pos o.right -ℤ z -ℤ pos b) (word_sub 64 (word_sub 64 o.right a) b) r

pub wider_fits : (x w n : ℕ) → x < 2 ^ w → x < 2 ^ max w n
wider_fits x w n h = let l : w ≤ max w n = omega arith in let p : 2 ^ w ≤ 2 ^ max w n = pow_mono l in omega (arith, h, p)

pub moving_made : (g h i k : Graph) (x w base u close place id n b : ℕ) (t : Bool) (o : Object) → IsOfSort g x (word w) → n ≤ 128 → b ≤ 128 → o.right < 2 ^ 32
    → Grows g h → Makes g h base u close 64 (near t u) → Grows h i → Makes h i close 64 place 64 (placed o b) → Joins i k x w place 64 id n (moved (max w n) n)
    → Joins g k x w base u id n (λ a j. taken_from o b n (integer_from t u j) a)
moving_made g h i k x w base u close place id n b t o q most back small gh m hi r j =
    record {
      of_sort = j.of_sort;
      value = λ p a c is_a is_c.
          let wide : max w n ≤ 128 = omega (arith, most, at_most_128 g x w q) in
          subst (λ z. HasNumber k id n p z)
          (placed-bits o (max w n) n b a (near t u c) (integer_from t u c) small back wide (omega arith) (wider_fits a w n is_a.fits) (near-place t u c is_c.fits))
          (j.value p a (placed o b (near t u c)) (number_kept x w p a (Grows-trans gh hi) q.below is_a) (r.value p (near t u c) (m.value p c is_c)));
    }
