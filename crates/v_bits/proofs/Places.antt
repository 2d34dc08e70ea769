-- Bits of a number at known places: what is taken of it, and the terms that take it.
use Rattle.std.proofs.Common.{◌≡◌, ℕ, ◌+◌, ◌-◌, ◌*◌, ◌/◌, ◌%◌, ◌<◌, ◌≤◌, ◌^◌, Bool, true, false, cond, not, sym, ap, ◌∙◌, subst, arith, pos, negsuc, ◌-ℤ◌}
use Rattle.std.proofs.Math.Nat.{mod-eq_of_lt, div-one, mul-mod_left}
use Rattle.std.proofs.Math.Pow.{pow_mono, mod-pow-add, shl-shr}
use Rattle.std.proofs.lemmas.Nat.{shr_below}
use Rattle.std.proofs.lemmas.Int.{ints}
use Rattle.std.proofs.lemmas.Bool.{false≢true}
use Rattle.wb_values.specs.Value.{word, Valuation}
use Rattle.wb_values.specs.Number.{word_extract, word_concat}
use Rattle.verilog_meaning.specs.Expression.{widened, bits_from}
use Rattle.wb_terms.specs.Graph.{Graph}
use Rattle.v_operators.specs.Meaning.{Grows, IsOfSort, HasNumber, Makes, Joins}
use Rattle.v_operators.proofs.Growing.{number_kept}
use Rattle.v_value.proofs.Bits.{beyond, below, far_below}

-- the same number said in other words
pub makes_so : (g h : Graph) (x u id w : ℕ) (f k : ℕ → ℕ) → ((a : ℕ) → a < 2 ^ u → f a ≡ k a) → Makes g h x u id w f → Makes g h x u id w k
makes_so g h x u id w f k same m = record { of_sort = m.of_sort; value = λ p a i. subst (λ z. HasNumber h id w p z) (same a i.fits) (m.value p a i) }

-- one number made of another
pub then_made : (g h k : Graph) (x u y v id w : ℕ) (f e : ℕ → ℕ) → Makes g h x u y v f → Makes h k y v id w e → Makes g k x u id w (λ a. e (f a))
then_made g h k x u y v id w f e m n = record { of_sort = n.of_sort; value = λ p a i. n.value p (f a) (m.value p a i) }

-- ---- the lowest bits

whole_count : (c : ℕ) → 1 ≤ c → c - 1 + 1 - 0 ≡ c
whole_count c h = omega (arith, h)

pub cut_part : (g h : Graph) (x u id c : ℕ) → 1 ≤ c → Makes g h x u id (c - 1 + 1 - 0) (word_extract (c - 1) 0) → Makes g h x u id c (λ n. n % 2 ^ c)
cut_part g h x u id c s m =
    makes_so g h x u id c (λ n. n / 2 ^ 0 % 2 ^ c) (λ n. n % 2 ^ c) (λ a l. ap (λ j. j % 2 ^ c) (div-one a))
    (subst (λ k. Makes g h x u id k (λ n. n / 2 ^ 0 % 2 ^ k)) (whole_count c s) m)

pub cut_wide : (g h : Graph) (x u id c : ℕ) → u < c → Makes g h x u id c (widened false u c) → Makes g h x u id c (λ n. n % 2 ^ c)
cut_wide g h x u id c l m =
    let wider : u ≤ c = omega (arith, l) in
    let more : 2 ^ u ≤ 2 ^ c = pow_mono wider in
    makes_so g h x u id c (λ n. n) (λ n. n % 2 ^ c) (λ a i. sym (mod-eq_of_lt {n = a} {m = 2 ^ c} (omega (arith, i, more)))) m

-- ---- moved down

rest_of : (u k : ℕ) → k < u → u - 1 + 1 - k + k ≡ u
rest_of u k l = omega (arith, l)

high_bits : (u k a : ℕ) → k < u → a < 2 ^ u → a / 2 ^ k % 2 ^ (u - 1 + 1 - k) ≡ a / 2 ^ k
high_bits u k a l h =
    let fits : a < 2 ^ (u - 1 + 1 - k + k) = subst (λ j. a < 2 ^ j) (sym (rest_of u k l)) h in
    mod-eq_of_lt {n = a / 2 ^ k} {m = 2 ^ (u - 1 + 1 - k)} (shr_below a (u - 1 + 1 - k) k fits)

pub down_made : (g h k : Graph) (x u y id n c : ℕ) → n < u → Makes g h x u y (u - 1 + 1 - n) (word_extract (u - 1) n) → Makes h k y (u - 1 + 1 - n) id c (λ a. a % 2 ^ c) → Makes g k x u id c (λ a. a / 2 ^ n % 2 ^ c)
down_made g h k x u y id n c l m r =
    makes_so g k x u id c (λ a. a / 2 ^ n % 2 ^ (u - 1 + 1 - n) % 2 ^ c) (λ a. a / 2 ^ n % 2 ^ c) (λ a i. ap (λ j. j % 2 ^ c) (high_bits u n a l i))
    (then_made g h k x u y (u - 1 + 1 - n) id c (word_extract (u - 1) n) (λ a. a % 2 ^ c) m r)

-- ---- moved up

sum_of : (c n : ℕ) → n < c → c - n + n ≡ c
sum_of c n l = omega (arith, l)

-- x * 2^n cut to c bits has the lowest c - n bits of x at its high end
raised_cut : (x n c : ℕ) → n < c → x % 2 ^ (c - n) * 2 ^ n + 0 ≡ x * 2 ^ n % 2 ^ c
raised_cut x n c l =
    let e : c - n + n ≡ c = sum_of c n l in
    let s : x * 2 ^ n % 2 ^ (c - n + n) ≡ (x * 2 ^ n / 2 ^ n % 2 ^ (c - n)) * 2 ^ n + x * 2 ^ n % 2 ^ n = mod-pow-add (x * 2 ^ n) (c - n) n in
    let d : x * 2 ^ n / 2 ^ n ≡ x = shl-shr x n in
    let z : x * 2 ^ n % 2 ^ n ≡ 0 = mul-mod_left x (2 ^ n) in
    sym (ap (λ k. x * 2 ^ n % 2 ^ k) (sym e) ∙ s ∙ ap (λ k. (k % 2 ^ (c - n)) * 2 ^ n + x * 2 ^ n % 2 ^ n) d ∙ ap (λ k. x % 2 ^ (c - n) * 2 ^ n + k) z)

pub up_made : (g h i k : Graph) (x u y none_id id n c : ℕ) → n < c → IsOfSort h y (word (c - n)) → Grows h i → Makes g h x u y (c - n) (λ a. a % 2 ^ (c - n)) → ((p : Valuation) → HasNumber i none_id n p 0)
    → Joins i k y (c - n) none_id n id (c - n + n) (word_concat n) → Makes g k x u id c (λ a. a * 2 ^ n % 2 ^ c)
up_made g h i k x u y none_id id n c l o grows m none j =
    subst (λ w. Makes g k x u id w (λ a. a * 2 ^ n % 2 ^ c)) (sum_of c n l)
    (record {
      of_sort = j.of_sort;
      value = λ p a q. subst (λ z. HasNumber k id (c - n + n) p z) (raised_cut a n c l)
          (j.value p (a % 2 ^ (c - n)) 0 (number_kept y (c - n) p (a % 2 ^ (c - n)) grows o.below (m.value p a q)) (none p));
    })

-- ---- nothing

pub nothing_made : (g h : Graph) (x u id c : ℕ) → IsOfSort h id (word c) → ((p : Valuation) → HasNumber h id c p 0) → Makes g h x u id c (λ a. 0)
nothing_made g h x u id c o none = record { of_sort = o; value = λ p a i. none p }

pub down_past : (g h : Graph) (x u id k c : ℕ) → u ≤ k → Makes g h x u id c (λ a. 0) → Makes g h x u id c (λ a. a / 2 ^ k % 2 ^ c)
down_past g h x u id k c l m = makes_so g h x u id c (λ a. 0) (λ a. a / 2 ^ k % 2 ^ c) (λ a i. beyond a u k c i l) m

pub up_past : (g h : Graph) (x u id k c : ℕ) → c ≤ k → Makes g h x u id c (λ a. 0) → Makes g h x u id c (λ a. a * 2 ^ k % 2 ^ c)
up_past g h x u id k c l m = makes_so g h x u id c (λ a. 0) (λ a. a * 2 ^ k % 2 ^ c) (λ a i. below a k c l) m

pub up_none : (g h : Graph) (x u id k c : ℕ) → k ≡ 0 → Makes g h x u id c (λ a. a % 2 ^ c) → Makes g h x u id c (λ a. a * 2 ^ k % 2 ^ c)
up_none g h x u id k c e m = makes_so g h x u id c (λ a. a % 2 ^ c) (λ a. a * 2 ^ k % 2 ^ c) (λ a i. (let q : a ≡ a * 1 = omega arith in ap (λ j. j % 2 ^ c) q) ∙ ap (λ j. a * 2 ^ j % 2 ^ c) (sym e)) m

-- ---- the bits of a span: its place, how far back they begin, and how many there are

module _ (g h : Graph) (x u id m b c : ℕ) (t : Bool) where
  pub span_down : not t ≡ true → b ≤ m → Makes g h x u id c (λ a. a / 2 ^ (m - b) % 2 ^ c) → Makes g h x u id c (λ a. bits_from (cond t (negsuc m) (pos m) -ℤ pos b) c a)
  span_down e l r = makes_so g h x u id c (λ a. a / 2 ^ (m - b) % 2 ^ c) (λ a. bits_from (cond t (negsuc m) (pos m) -ℤ pos b) c a) (λ a i. ap (λ z. bits_from z c a) (sym (place t e))) r where
    place : (t : Bool) → not t ≡ true → cond t (negsuc m) (pos m) -ℤ pos b ≡ pos (m - b)
    place false e = omega (arith, ints, l)
    place true e = absurd (false≢true e)

  pub span_up : not t ≡ true → m < b → Makes g h x u id c (λ a. a * 2 ^ (b - m) % 2 ^ c) → Makes g h x u id c (λ a. bits_from (cond t (negsuc m) (pos m) -ℤ pos b) c a)
  span_up e l r =
      let s : b - m - 1 + 1 ≡ b - m = omega (arith, l) in
      makes_so g h x u id c (λ a. a * 2 ^ (b - m) % 2 ^ c) (λ a. bits_from (cond t (negsuc m) (pos m) -ℤ pos b) c a)
      (λ a i. ap (λ k. a * 2 ^ k % 2 ^ c) (sym s) ∙ ap (λ z. bits_from z c a) (sym (place t e))) r where
        place : (t : Bool) → not t ≡ true → cond t (negsuc m) (pos m) -ℤ pos b ≡ negsuc (b - m - 1)
        place false e = omega (arith, ints, l)
        place true e = absurd (false≢true e)

  pub span_far : not t ≡ false → c ≤ 128 → 128 ≤ m → Makes g h x u id c (λ a. 0) → Makes g h x u id c (λ a. bits_from (cond t (negsuc m) (pos m) -ℤ pos b) c a)
  span_far e l f r = makes_so g h x u id c (λ a. 0) (λ a. bits_from (cond t (negsuc m) (pos m) -ℤ pos b) c a) (λ a i. far_below t m b c a e l f) r

  pub span_below : not t ≡ false → Makes g h x u id c (λ a. a * 2 ^ (m + b + 1) % 2 ^ c) → Makes g h x u id c (λ a. bits_from (cond t (negsuc m) (pos m) -ℤ pos b) c a)
  span_below e r = makes_so g h x u id c (λ a. a * 2 ^ (m + b + 1) % 2 ^ c) (λ a. bits_from (cond t (negsuc m) (pos m) -ℤ pos b) c a) (λ a i. ap (λ z. bits_from z c a) (sym (place t e))) r where
    place : (t : Bool) → not t ≡ false → cond t (negsuc m) (pos m) -ℤ pos b ≡ negsuc (m + b)
    place true e = omega (arith, ints)
    place false e = absurd (false≢true (sym e))
