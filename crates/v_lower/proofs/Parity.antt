-- Whether a number has an odd number of bits set: bit by bit, from the high end.
use Rattle.std.proofs.Common.{◌≡◌, ℕ, ◌+◌, ◌-◌, ◌*◌, ◌/◌, ◌%◌, ◌<◌, ◌≤◌, ◌^◌, refl, sym, ap, ◌∙◌, subst, arith, count_ones}
use Rattle.std.specs.Prelude.{◌==◌}
use Rattle.std.proofs.Math.Nat.{mod-lt, div-eq_of_lt, div-one}
use Rattle.std.proofs.Math.Pow.{shr-shr}
use Rattle.std.proofs.lemmas.Nat.{shr_below, zero_from_ones, ones_le_self}
use lib.Count.{ones_step}
use lib.Bits.{xor_add_and, xor_lt}
use Rattle.wb_values.specs.Value.{word, Valuation}
use Rattle.wb_values.specs.Number.{word_xor, word_extract}
use Rattle.wb_terms.specs.Graph.{Graph}
use Rattle.v_operators.specs.Meaning.{Grows, IsOfSort, HasNumber, Makes, Joins, Tests}
use Rattle.v_operators.proofs.Growing.{number_kept}
use Rattle.v_bits.proofs.Places.{makes_so}

one_place : (k : ℕ) → k + 1 - k ≡ 1
one_place k = omega arith

pub one_bit_made : (g h : Graph) (x w id k : ℕ) → Makes g h x w id (k + 1 - k) (word_extract k k) → Makes g h x w id 1 (λ a. a / 2 ^ k % 2)
one_bit_made g h x w id k m = subst (λ j. Makes g h x w id j (λ a. a / 2 ^ k % 2 ^ j)) (one_place k) m

-- a number of one bit
parity-one : (n : ℕ) → n < 2 → n % 2 ≡ count_ones n % 2
parity-one n h =
    let s : count_ones n ≡ n % 2 + count_ones (n / 2) = ones_step n in
    let half : n / 2 ≡ 0 = div-eq_of_lt h in
    let none : count_ones (n / 2) ≡ 0 = (let l : count_ones (n / 2) ≤ n / 2 = ones_le_self (n / 2) in omega (arith, l, half)) in
    omega (arith, s, none)

pub parity_begins : (g h : Graph) (x w id : ℕ) → 1 ≤ w → Makes g h x w id 1 (λ a. a / 2 ^ (w - 1) % 2) → Makes g h x w id 1 (λ a. count_ones (a / 2 ^ (w - 1)) % 2)
parity_begins g h x w id s m =
    makes_so g h x w id 1 (λ a. a / 2 ^ (w - 1) % 2) (λ a. count_ones (a / 2 ^ (w - 1)) % 2)
    (λ a l. parity-one (a / 2 ^ (w - 1)) (let e : 1 + (w - 1) ≡ w = omega (arith, s) in shr_below a 1 (w - 1) (subst (λ k. a < 2 ^ k) (sym e) l))) m

-- the exclusive or of two bits
xor-bits : (a b : ℕ) → a < 2 → b < 2 → word_xor a b ≡ (a + b) % 2
xor-bits a b h k = let s = xor_add_and a b in let l : word_xor a b < 2 = xor_lt 1 a b h k in omega (arith, s, l)

-- one place more
parity-step : (a j k : ℕ) → k ≡ j + 1 → word_xor (count_ones (a / 2 ^ k) % 2) (a / 2 ^ j % 2) ≡ count_ones (a / 2 ^ j) % 2
parity-step a j k e =
    let s : count_ones (a / 2 ^ j) ≡ a / 2 ^ j % 2 + count_ones (a / 2 ^ j / 2) = ones_step (a / 2 ^ j) in
    let half : a / 2 ^ j / 2 ≡ a / 2 ^ k = shr-shr a j 1 ∙ ap (λ i. a / 2 ^ i) (sym e) in
    let t : count_ones (a / 2 ^ j / 2) ≡ count_ones (a / 2 ^ k) = ap count_ones half in
    xor-bits (count_ones (a / 2 ^ k) % 2) (a / 2 ^ j % 2) (mod-lt (count_ones (a / 2 ^ k)) (omega arith)) (mod-lt (a / 2 ^ j) (omega arith)) ∙ omega (arith, s, t)

pub parity_goes_on : (g h i j : Graph) (x w sum bit id n : ℕ) → 1 ≤ n → n < w → IsOfSort g x (word w) → Grows g h → Makes g h x w sum 1 (λ a. count_ones (a / 2 ^ (w - n)) % 2)
    → Grows h i → Makes h i x w bit 1 (λ a. a / 2 ^ (w - 1 - n) % 2) → Joins i j sum 1 bit 1 id 1 word_xor → Makes g j x w id 1 (λ a. count_ones (a / 2 ^ (w - (n + 1))) % 2)
parity_goes_on g h i j x w sum bit id n some l o gh m hi b r =
    let place : w - (n + 1) ≡ w - 1 - n = omega arith in
    let next : w - n ≡ w - 1 - n + 1 = omega (arith, l) in
    record {
      of_sort = r.of_sort;
      value = λ p a q.
          subst (λ z. HasNumber j id 1 p z) (parity-step a (w - 1 - n) (w - n) next ∙ ap (λ k. count_ones (a / 2 ^ k) % 2) (sym place))
          (r.value p (count_ones (a / 2 ^ (w - n)) % 2) (a / 2 ^ (w - 1 - n) % 2)
          (number_kept sum 1 p (count_ones (a / 2 ^ (w - n)) % 2) hi m.of_sort.below (m.value p a q)) (b.value p a (number_kept x w p a gh o.below q)));
    }

pub parity_ends : (g h : Graph) (x w id n : ℕ) → n ≡ w → Makes g h x w id 1 (λ a. count_ones (a / 2 ^ (w - n)) % 2) → Makes g h x w id 1 (λ a. count_ones a % 2)
parity_ends g h x w id n e m =
    let z : w - n ≡ 0 = omega (arith, e) in
    makes_so g h x w id 1 (λ a. count_ones (a / 2 ^ (w - n)) % 2) (λ a. count_ones a % 2) (λ a l. ap (λ k. count_ones (a / 2 ^ k) % 2) z ∙ ap (λ k. count_ones k % 2) (div-one a)) m

pub parity_test : (g h k : Graph) (x w bit id n : ℕ) → Makes g h x w bit 1 (λ a. count_ones a % 2) → Tests h k bit 1 id (λ a. a == n) → Tests g k x w id (λ a. count_ones a % 2 == n)
parity_test g h k x w bit id n m t = record { of_sort = t.of_sort; value = λ p a i. t.value p (count_ones a % 2) (m.value p a i) }
