-- Choices between words, and the word at an address by the bits of the address.
use Rattle.std.proofs.Common.{◌≡◌, ℕ, zero, suc, ◌+◌, ◌-◌, ◌*◌, ◌/◌, ◌%◌, ◌<◌, ◌≤◌, ◌^◌, Bool, true, false, cond, ◌&&◌, List, [], ◌∷◌, length, nat_le, nat_lt, Some, IsTrue, refl, sym, ap, ◌∙◌, subst, arith}
use Rattle.std.specs.Prelude.{◌==◌, slice_index, IsSome, is_some}
use Rattle.std.proofs.Math.Nat.{pow-succ', mod-eq_of_lt, mod-one}
use Rattle.std.proofs.Math.Pow.{pow_pos}
use Rattle.std.proofs.lemmas.Nat.{mod-pow-add}
use Rattle.std.proofs.lemmas.Bool.Decides.{nat_tests}
use Rattle.wb_values.specs.Value.{Sort, truth, word, memory, Value, truth_value, number, as_truth, as_number, Valuation}
use Rattle.wb_values.specs.Number.{word_extract, word_eq}
use Rattle.wb_values.specs.Choice.{some_if}
use Rattle.model_meaning.specs.Term.{Term, const, eq, extract, ite, name, sort_of, is_width, is_sort, is_equal, val}
use Rattle.wb_terms.specs.Graph.{Graph, IsOver, tree}
use Rattle.wb_terms.specs.declared.nodes.TermId.{TermId}
use Rattle.sat_gates.specs.Names.{is_blastable}
use Rattle.ob_mem.specs.declared.rows.Row.TheVariants.{Choices, Matches, Constants, Updates}
use Rattle.ob_mem.specs.Rows.{Grows, IsRow, node_in, tree_in, AreOver, IsPlain, AreWords, HoldWords}
use Rattle.ob_mem.proofs.Growing.{IsPlain-kept, AreWords-kept, HoldWords-kept, val_kept, row_plain, row_val}

pub same_width : (d : ℕ) → (d == d) ≡ true
same_width d = grind (arith, nat_tests)

-- sorts
pub ite_words : (c x y : Term) (d : ℕ) → sort_of c ≡ Some truth → sort_of x ≡ Some (word d) → sort_of y ≡ Some (word d) → sort_of (ite c x y) ≡ Some (word d)
ite_words c x y d p q r = rw (p, q, r, same_width d) refl

pub eq_words : (x y : Term) (d : ℕ) → sort_of x ≡ Some (word d) → sort_of y ≡ Some (word d) → sort_of (eq x y) ≡ Some truth
eq_words x y d p q = rw (p, q, same_width d) refl

in_word : (b w : ℕ) → b < w → (nat_le b b && nat_lt b w) ≡ true
in_word b w h = grind (arith, nat_tests)

pub extract_word : (x : Term) (b w : ℕ) → b < w → sort_of x ≡ Some (word w) → sort_of (extract b b x) ≡ Some (word 1)
extract_word x b w h e =
    let one : b + 1 - b ≡ 1 = omega arith in
    rw (e, in_word b w h, one) refl

pub blastable_three : (c x y : Term) → is_blastable c ≡ true → is_blastable x ≡ true → is_blastable y ≡ true → is_blastable (ite c x y) ≡ true
blastable_three c x y p q r = rw (p, q, r) refl

pub blastable_two : (x y : Term) → is_blastable x ≡ true → is_blastable y ≡ true → is_blastable (eq x y) ≡ true
blastable_two x y p q = rw (p, q) refl

-- a term without a memory that stands so much further on
pub moved : (g : Graph) (first off k : ℕ) (s : Sort) → IsPlain g (first + (off + k)) s → IsPlain g (first + off + k) s
moved g first off k s p =
    let e : first + (off + k) ≡ first + off + k = omega arith in
    subst (λ j. IsPlain g j s) e p

-- choices by one condition between two rows
pub choices_over : (g : Graph) (c x y : TermId) (count d : ℕ) → IsPlain g c.0 truth → AreWords g x.0 count d → AreWords g y.0 count d → AreOver g (Choices c x y) count
choices_over g c x y count d p q r =
    record {
      over = λ k b. record { operands = (p.below, ((q k b).below, ((r k b).below, tt))); names = tt };
      sorted = λ k b. ap is_some (ite_words (tree g c.0) (tree g (x.0 + k)) (tree g (y.0 + k)) d p.sort (q k b).sort (r k b).sort);
    }

pub choices_words : (g h : Graph) (c x y : TermId) (first count d : ℕ) → first ≡ length g.nodes → IsRow g h (tree_in g (Choices c x y)) count → IsPlain g c.0 truth → AreWords g x.0 count d → AreWords g y.0 count d → AreWords h first count d
choices_words g h c x y first count d i row p q r k b =
    row_plain g h (tree_in g (Choices c x y)) count first k (word d) row i b
    (ite_words (tree g c.0) (tree g (x.0 + k)) (tree g (y.0 + k)) d p.sort (q k b).sort (r k b).sort)
    (blastable_three (tree g c.0) (tree g (x.0 + k)) (tree g (y.0 + k)) p.blastable (q k b).blastable (r k b).blastable)

pub chosen : (w : Valuation) (c x y : Term) (q m n : Value) → val c w ≡ q → val x w ≡ m → val y w ≡ n → val (ite c x y) w ≡ cond (as_truth q) m n
chosen w c x y q m n e f h = ap (λ z. cond (as_truth z) (val x w) (val y w)) e ∙ (ap (λ z. cond (as_truth q) z (val y w)) f ∙ ap (cond (as_truth q) m) h)

pub choices_value : (g h : Graph) (c x y : TermId) (first count k : ℕ) (w : Valuation) (q m n : Value) → first ≡ length g.nodes → IsRow g h (tree_in g (Choices c x y)) count → k < count
    → val (tree g c.0) w ≡ q → val (tree g (x.0 + k)) w ≡ m → val (tree g (y.0 + k)) w ≡ n → val (tree h (first + k)) w ≡ cond (as_truth q) m n
choices_value g h c x y first count k w q m n i row b e f p =
    row_val g h (tree_in g (Choices c x y)) count first k w (cond (as_truth q) m n) row i b (chosen w (tree g c.0) (tree g (x.0 + k)) (tree g (y.0 + k)) q m n e f p)

-- the halves of a row
twice : (p : ℕ) → 2 ^ (p + 1) ≡ 2 ^ p + 2 ^ p
twice p =
    let s : p + 1 ≡ suc p = omega arith in
    let t : 2 ^ suc p ≡ 2 * 2 ^ p = pow-succ' 2 p in
    omega (arith, ap (λ j. 2 ^ j) s, t)

pub upper_half : (g : Graph) (first p d : ℕ) → AreWords g first (2 ^ (p + 1)) d → AreWords g (first + 2 ^ p) (2 ^ p) d
upper_half g first p d h k b = moved g first (2 ^ p) k (word d) (h (2 ^ p + k) (omega (arith, twice p)))

pub lower_half : (g : Graph) (first p d : ℕ) → AreWords g first (2 ^ (p + 1)) d → AreWords g first (2 ^ p) d
lower_half g first p d h k b = h k (omega (arith, twice p))

-- whether a bit of an address is 1
bit_test : (i p : ℕ) → word_eq (word_extract p p i) 1 ≡ ((i / 2 ^ p) % 2 == 1)
bit_test i p =
    let one : p + 1 - p ≡ 1 = omega arith in
    rw one refl

pub bit_value : (w : Valuation) (x o : Term) (p i : ℕ) → val x w ≡ number i → o ≡ const 1 1 → val (eq (extract p p x) o) w ≡ truth_value ((i / 2 ^ p) % 2 == 1)
bit_value w x o p i h e =
    subst (λ (u : Term). val (eq (extract p p x) u) w ≡ truth_value ((i / 2 ^ p) % 2 == 1)) (sym e)
    (rw h (ap truth_value (bit_test i p)))

-- Where the bit is 1, the word of the upper half stands at the address without its lower bits, and else that of the lower half.
next_bit : (i p : ℕ) → i % 2 ^ (p + 1) ≡ (i / 2 ^ p % 2) * 2 ^ p + i % 2 ^ p
next_bit i p =
    let s : 1 + p ≡ p + 1 = omega arith in
    ap (λ j. i % 2 ^ j) (sym s) ∙ mod-pow-add i 1 p

place_up : (i p k : ℕ) → ((i / 2 ^ p) % 2 == 1) ≡ true → i % 2 ^ (p + 1) ≤ i → i - i % 2 ^ (p + 1) + (2 ^ p + k) ≡ i - i % 2 ^ p + k
place_up i p k t l =
    let b : (i / 2 ^ p) % 2 ≡ 1 = grind (arith, nat_tests) in
    let n : i % 2 ^ (p + 1) ≡ 1 * 2 ^ p + i % 2 ^ p = next_bit i p ∙ ap (λ j. j * 2 ^ p + i % 2 ^ p) b in
    omega (arith, n, l)

zero_bit : (n : ℕ) → n < 2 → (n == 1) ≡ false → n ≡ 0
zero_bit n l t = grind (arith, nat_tests)

place_down : (i p k : ℕ) → ((i / 2 ^ p) % 2 == 1) ≡ false → i - i % 2 ^ (p + 1) + k ≡ i - i % 2 ^ p + k
place_down i p k t =
    let b : (i / 2 ^ p) % 2 ≡ 0 = zero_bit ((i / 2 ^ p) % 2) (omega arith) t in
    let n : i % 2 ^ (p + 1) ≡ 0 * 2 ^ p + i % 2 ^ p = next_bit i p ∙ ap (λ j. j * 2 ^ p + i % 2 ^ p) b in
    omega (arith, n)

pub half_value : (xs : List ℕ) (i p k : ℕ) (t : Bool) → ((i / 2 ^ p) % 2 == 1) ≡ t → i % 2 ^ (p + 1) ≤ i
    → cond t (number (slice_index xs (i - i % 2 ^ (p + 1) + (2 ^ p + k)))) (number (slice_index xs (i - i % 2 ^ (p + 1) + k))) ≡ number (slice_index xs (i - i % 2 ^ p + k))
half_value xs i p k true e l = ap (λ j. number (slice_index xs j)) (place_up i p k e l)
half_value xs i p k false e l = ap (λ j. number (slice_index xs j)) (place_down i p k e)

pub half_twice : (p : ℕ) → 2 ^ (p + 1) ≡ 2 ^ p + 2 ^ p
half_twice p = omega (arith, twice p)

pub half_below : (p : ℕ) → 2 ^ p < 2 ^ (p + 1)
half_below p =
    let q : 0 < 2 ^ p = pow_pos p in
    omega (arith, twice p, q)

pub half_above : (p k : ℕ) → k < 2 ^ p → 2 ^ p + k < 2 ^ (p + 1)
half_above p k b = omega (arith, twice p, b)

pub half_within : (p k : ℕ) → k < 2 ^ p → k < 2 ^ (p + 1)
half_within p k b = omega (arith, twice p, b)

-- the whole row begins at 0, and the last word stands at the address itself
pub whole_place : (i a : ℕ) → i < 2 ^ a → i - i % 2 ^ a ≡ 0
whole_place i a b =
    let m : i % 2 ^ a ≡ i = mod-eq_of_lt b in
    omega (arith, m)

pub last_word : (g : Graph) (first p d : ℕ) → p ≡ 0 → AreWords g first (2 ^ p) d → IsPlain g first (word d)
last_word g first p d e a =
    let one : 0 < 2 ^ p = pow_pos p in
    let z : first + 0 ≡ first = omega arith in
    subst (λ n. IsPlain g n (word d)) z (a 0 one)

pub last_place : (g : Graph) (w : Valuation) (first p : ℕ) (xs : List ℕ) (i : ℕ) → p ≡ 0 → HoldWords g w first (2 ^ p) xs (i - i % 2 ^ p) → val (tree g first) w ≡ number (slice_index xs i)
last_place g w first p xs i e a =
    let one : 0 < 2 ^ p = pow_pos p in
    let z : first + 0 ≡ first = omega arith in
    let m : i % 2 ^ p ≡ 0 = ap (λ q. i % 2 ^ q) e ∙ mod-one i in
    let s : i - i % 2 ^ p + 0 ≡ i = omega (arith, m) in
    ap (λ n. val (tree g n) w) (sym z) ∙ (a 0 one ∙ ap (λ n. number (slice_index xs n)) s)
