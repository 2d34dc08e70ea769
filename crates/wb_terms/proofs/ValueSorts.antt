-- A term's value is of the term's sort, where each of its names stands for a value of its own sort.
use Rattle.std.proofs.Common.{◌≡◌, ℕ, ◌+◌, ◌-◌, ◌*◌, ◌/◌, ◌<◌, ◌≤◌, ◌^◌, min, Bool, true, false, cond, ◌&&◌, nat_lt, nat_le, length, Option, Some, None, IsTrue, refl, sym, ap, ◌∙◌, subst, arith}
use Rattle.std.specs.Prelude.{⊤, ◌==◌, bit_and, bit_or, bit_xor, slice_index, slice_set}
use Rattle.std.proofs.Math.ListN.{length-set}
use Rattle.std.proofs.Math.Nat.{mod-lt, div-le_self}
use Rattle.std.proofs.Math.Pow.{pow_pos, pow_mono}
use Rattle.std.specs.Int.Bits.{and_lt}
use Rattle.std.proofs.lemmas.Grind.{get_or_default_zero}
use Rattle.std.proofs.lemmas.Nat.{or_lt, xor_lt, mul-add-lt, pow-add, shr_below}
use Rattle.std.proofs.lemmas.Bool.{false≢true}
use Rattle.std.proofs.lemmas.Bool.Decides.{nat_tests}
use Rattle.wb_values.specs.Value.{Value, Sort, truth, word, memory, truth_value, number, words, all_below, HasSort, Valuation, as_truth, as_words, as_number}
use Rattle.wb_values.specs.Number.{top_bit, word_not, word_neg, word_add, word_sub, word_mul, word_shl, word_lshr, word_ashr, word_concat, word_extract, word_sext}
use Rattle.wb_values.specs.Choice.{some_if}
use Rattle.model_meaning.specs.Term.{Term, name, constant_truth, const, not, neg, and, or, xor, add, sub, mul, shl, lshr, ashr, eq, ult, ule, slt, sle, concat, extract, zext, sext, ite, load, store, is_width, is_sort, same_sort, bits_sort, same_bits_sort, word_sort, same_word_sort, compared, concat_sort, extract_sort, extended_sort, ite_sort, load_sort, store_sort, sort_of, width_of_sort, complement, conjunction, disjunction, exclusive_or, val}
use Rattle.wb_terms.proofs.EnvironmentLemmas.{memory_word, length-memory}
use Rattle.wb_terms.proofs.HeldLemmas.{both, both_from, same_number, test_of, below, all_below-set}

-- each name of the term stands for a value of its sort
abbrev pub NamesFit : Valuation → Term → Type 0
NamesFit v (name n s) = HasSort (v n) s
NamesFit v (constant_truth b) = ⊤
NamesFit v (const w x) = ⊤
NamesFit v (not x) = NamesFit v x
NamesFit v (neg x) = NamesFit v x
NamesFit v (and x y) = NamesFit v x × NamesFit v y
NamesFit v (or x y) = NamesFit v x × NamesFit v y
NamesFit v (xor x y) = NamesFit v x × NamesFit v y
NamesFit v (add x y) = NamesFit v x × NamesFit v y
NamesFit v (sub x y) = NamesFit v x × NamesFit v y
NamesFit v (mul x y) = NamesFit v x × NamesFit v y
NamesFit v (shl x y) = NamesFit v x × NamesFit v y
NamesFit v (lshr x y) = NamesFit v x × NamesFit v y
NamesFit v (ashr x y) = NamesFit v x × NamesFit v y
NamesFit v (eq x y) = NamesFit v x × NamesFit v y
NamesFit v (ult x y) = NamesFit v x × NamesFit v y
NamesFit v (ule x y) = NamesFit v x × NamesFit v y
NamesFit v (slt x y) = NamesFit v x × NamesFit v y
NamesFit v (sle x y) = NamesFit v x × NamesFit v y
NamesFit v (concat x y) = NamesFit v x × NamesFit v y
NamesFit v (load x y) = NamesFit v x × NamesFit v y
NamesFit v (extract h l x) = NamesFit v x
NamesFit v (zext n x) = NamesFit v x
NamesFit v (sext n x) = NamesFit v x
NamesFit v (ite c x y) = NamesFit v c × NamesFit v x × NamesFit v y
NamesFit v (store m i x) = NamesFit v m × NamesFit v i × NamesFit v x

-- the value is one of the sort, where there is a sort
abbrev pub IsOf : Option Sort → Value → Type 0
IsOf (Some s) x = HasSort x s
IsOf None x = ⊤

is_of_if : (b : Bool) (s : Sort) (x : Value) → (IsTrue b → HasSort x s) → IsOf (some_if b s) x
is_of_if true s x h = h refl
is_of_if false s x h = tt

number_below : (w : ℕ) (x : Value) → HasSort x (word w) → as_number x < 2 ^ w
number_below w (truth_value b) h = absurd (false≢true h)
number_below w (number n) h = below n (2 ^ w) h
number_below w (words ws) h = absurd (false≢true h)

-- the operators' numbers fit
not_below : (w x : ℕ) → word_not w x < 2 ^ w
not_below w x = let p : 0 < 2 ^ w = pow_pos w in omega arith

neg_below : (w x : ℕ) → word_neg w x < 2 ^ w
neg_below w x = mod-lt (2 ^ w - x) (pow_pos w)

add_below : (w x y : ℕ) → x < 2 ^ w → word_add w x y < 2 ^ w
add_below w x y h = mod-lt (x + y) (pow_pos w)

sub_below : (w x y : ℕ) → x < 2 ^ w → word_sub w x y < 2 ^ w
sub_below w x y h = mod-lt (x + (2 ^ w - y)) (pow_pos w)

mul_below : (w x y : ℕ) → x < 2 ^ w → word_mul w x y < 2 ^ w
mul_below w x y h = mod-lt (x * y) (pow_pos w)

shl_below : (w x y : ℕ) → x < 2 ^ w → word_shl w x y < 2 ^ w
shl_below w x y h = mod-lt (x * 2 ^ min y w) (pow_pos w)

lshr_below : (w x y : ℕ) → x < 2 ^ w → word_lshr w x y < 2 ^ w
lshr_below w x y h = let l : x / 2 ^ min y w ≤ x = div-le_self x (2 ^ min y w) in omega arith

filled_below : (b : Bool) (q low high : ℕ) → q < low → low ≤ high → q + cond b (high - low) 0 < high
filled_below true q low high h k = omega arith
filled_below false q low high h k = omega arith

ashr_below : (w x y : ℕ) → x < 2 ^ w → word_ashr w x y < 2 ^ w
ashr_below w x y h =
    let m : min y w ≤ w = omega arith in
    let e : w ≡ w - min y w + min y w = omega arith in
    let b : x < 2 ^ (w - min y w + min y w) = subst (λ k. x < 2 ^ k) e h in
    let q : x / 2 ^ min y w < 2 ^ (w - min y w) = shr_below x (w - min y w) (min y w) b in
    let l : w - min y w ≤ w = omega arith in
    filled_below (top_bit w x) (x / 2 ^ min y w) (2 ^ (w - min y w)) (2 ^ w) q (pow_mono l)

sext_below : (n w x : ℕ) → w ≤ n → x < 2 ^ w → word_sext n w x < 2 ^ n
sext_below n w x h b = filled_below (top_bit w x) x (2 ^ w) (2 ^ n) b (pow_mono h)

wider : (n w : ℕ) → IsTrue (nat_le w n && nat_le n 128) → w ≤ n
wider n w t = grind (arith, nat_tests)

concat_below : (x u y w : ℕ) → x < 2 ^ u → y < 2 ^ w → word_concat w x y < 2 ^ (u + w)
concat_below x u y w a b =
    let p : 2 ^ (u + w) ≡ 2 ^ u * 2 ^ w = pow-add 2 u w in
    let l : x * 2 ^ w + y < 2 ^ w * 2 ^ u = mul-add-lt x (2 ^ w) y (2 ^ u) a b in
    omega (arith, p, l)

-- each rule on sorts keeps it so
is_of_not : (a : Option Sort) (x : Value) → IsOf a x → IsOf (bits_sort a) (complement (width_of_sort a) x)
is_of_not None x h = tt
is_of_not (Some truth) (truth_value b) h = refl
is_of_not (Some truth) (number n) h = absurd (false≢true h)
is_of_not (Some truth) (words ws) h = absurd (false≢true h)
is_of_not (Some (word w)) (truth_value b) h = absurd (false≢true h)
is_of_not (Some (word w)) (number n) h = test_of (word_not w n) (2 ^ w) (not_below w n)
is_of_not (Some (word w)) (words ws) h = absurd (false≢true h)
is_of_not (Some (memory a d)) x h = tt

is_of_neg : (a : Option Sort) (x : Value) → IsOf (word_sort a) (number (word_neg (width_of_sort a) (as_number x)))
is_of_neg None x = tt
is_of_neg (Some truth) x = tt
is_of_neg (Some (word w)) x = test_of _ (2 ^ w) (neg_below w (as_number x))
is_of_neg (Some (memory a d)) x = tt

is_of_number : (f : ℕ → ℕ → ℕ → ℕ) → ((w x y : ℕ) → x < 2 ^ w → f w x y < 2 ^ w) → (a b : Option Sort) (x y : Value) → IsOf a x → IsOf (same_word_sort a b) (number (f (width_of_sort a) (as_number x) (as_number y)))
is_of_number f k (Some (word w)) (Some (word u)) x y h =
    is_of_if (w == u) (word w) (number (f w (as_number x) (as_number y))) (λ _. test_of (f w (as_number x) (as_number y)) (2 ^ w) (k w (as_number x) (as_number y) (number_below w x h)))
is_of_number f k _ _ x y h = tt

is_of_and : (a b : Option Sort) (x y : Value) → IsOf a x → IsOf b y → IsOf (same_bits_sort a b) (conjunction x y)
is_of_and (Some truth) (Some truth) (truth_value p) y h k = refl
is_of_and (Some truth) (Some truth) (number n) y h k = absurd (false≢true h)
is_of_and (Some truth) (Some truth) (words ws) y h k = absurd (false≢true h)
is_of_and (Some (word w)) (Some (word u)) (truth_value p) y h k = absurd (false≢true h)
is_of_and (Some (word w)) (Some (word u)) (words ws) y h k = absurd (false≢true h)
is_of_and (Some (word w)) (Some (word u)) (number n) y h k =
    is_of_if (w == u) (word w) (conjunction (number n) y) (λ t. test_of (bit_and n (as_number y)) (2 ^ w) (and_lt w n (as_number y) (below n (2 ^ w) h) (subst (λ e. as_number y < 2 ^ e) (sym (same_number w u t)) (number_below u y k))))
is_of_and _ _ x y h k = tt

is_of_or : (a b : Option Sort) (x y : Value) → IsOf a x → IsOf b y → IsOf (same_bits_sort a b) (disjunction x y)
is_of_or (Some truth) (Some truth) (truth_value p) y h k = refl
is_of_or (Some truth) (Some truth) (number n) y h k = absurd (false≢true h)
is_of_or (Some truth) (Some truth) (words ws) y h k = absurd (false≢true h)
is_of_or (Some (word w)) (Some (word u)) (truth_value p) y h k = absurd (false≢true h)
is_of_or (Some (word w)) (Some (word u)) (words ws) y h k = absurd (false≢true h)
is_of_or (Some (word w)) (Some (word u)) (number n) y h k =
    is_of_if (w == u) (word w) (disjunction (number n) y) (λ t. test_of (bit_or n (as_number y)) (2 ^ w) (or_lt w n (as_number y) (below n (2 ^ w) h) (subst (λ e. as_number y < 2 ^ e) (sym (same_number w u t)) (number_below u y k))))
is_of_or _ _ x y h k = tt

is_of_xor : (a b : Option Sort) (x y : Value) → IsOf a x → IsOf b y → IsOf (same_bits_sort a b) (exclusive_or x y)
is_of_xor (Some truth) (Some truth) (truth_value p) y h k = refl
is_of_xor (Some truth) (Some truth) (number n) y h k = absurd (false≢true h)
is_of_xor (Some truth) (Some truth) (words ws) y h k = absurd (false≢true h)
is_of_xor (Some (word w)) (Some (word u)) (truth_value p) y h k = absurd (false≢true h)
is_of_xor (Some (word w)) (Some (word u)) (words ws) y h k = absurd (false≢true h)
is_of_xor (Some (word w)) (Some (word u)) (number n) y h k =
    is_of_if (w == u) (word w) (exclusive_or (number n) y) (λ t. test_of (bit_xor n (as_number y)) (2 ^ w) (xor_lt w n (as_number y) (below n (2 ^ w) h) (subst (λ e. as_number y < 2 ^ e) (sym (same_number w u t)) (number_below u y k))))
is_of_xor _ _ x y h k = tt

is_of_truth : (a : Option Sort) (b : Bool) → IsOf (compared a) (truth_value b)
is_of_truth None b = tt
is_of_truth (Some s) b = refl

is_of_concat : (a b : Option Sort) (x y : Value) → IsOf a x → IsOf b y → IsOf (concat_sort a b) (number (word_concat (width_of_sort b) (as_number x) (as_number y)))
is_of_concat (Some (word u)) (Some (word w)) x y h k =
    is_of_if (nat_le (u + w) 128) (word (u + w)) (number (word_concat w (as_number x) (as_number y))) (λ _. test_of (word_concat w (as_number x) (as_number y)) (2 ^ (u + w)) (concat_below (as_number x) u (as_number y) w (number_below u x h) (number_below w y k)))
is_of_concat _ _ x y h k = tt

is_of_extract : (high low : ℕ) (a : Option Sort) (x : Value) → IsOf (extract_sort high low a) (number (word_extract high low (as_number x)))
is_of_extract high low (Some (word w)) x =
    is_of_if (nat_le low high && nat_lt high w) (word (high + 1 - low)) (number (word_extract high low (as_number x))) (λ _. test_of (word_extract high low (as_number x)) (2 ^ (high + 1 - low)) (mod-lt (as_number x / 2 ^ low) (pow_pos (high + 1 - low))))
is_of_extract high low _ x = tt

is_of_zext : (n : ℕ) (a : Option Sort) (x : Value) → IsOf a x → IsOf (extended_sort n a) (number (as_number x))
is_of_zext n (Some (word w)) x h =
    is_of_if (nat_le w n && nat_le n 128) (word n) (number (as_number x)) (λ t. let p : 2 ^ w ≤ 2 ^ n = pow_mono (wider n w t) in let l = number_below w x h in test_of (as_number x) (2 ^ n) (omega (arith, p, l)))
is_of_zext n _ x h = tt

is_of_sext : (n : ℕ) (a : Option Sort) (x : Value) → IsOf a x → IsOf (extended_sort n a) (number (word_sext n (width_of_sort a) (as_number x)))
is_of_sext n (Some (word w)) x h =
    is_of_if (nat_le w n && nat_le n 128) (word n) (number (word_sext n w (as_number x))) (λ t. test_of (word_sext n w (as_number x)) (2 ^ n) (sext_below n w (as_number x) (wider n w t) (number_below w x h)))
is_of_sext n _ x h = tt

same_from_sorts : (s t : Sort) → IsTrue (same_sort s t) → t ≡ s
same_from_sorts truth truth h = refl
same_from_sorts (word w) (word u) h = ap word (sym (same_number w u h))
same_from_sorts (memory a d) (memory b e) h =
    let t = both (a == b) (d == e) h in
    ap (λ k. memory k e) (sym (same_number a b t.0)) ∙ ap (memory a) (sym (same_number d e t.1))
same_from_sorts _ _ h = absurd (false≢true h)

chosen : (b : Bool) (s : Sort) (x y : Value) → HasSort x s → HasSort y s → HasSort (cond b x y) s
chosen true s x y h k = h
chosen false s x y h k = k

is_of_ite : (p : Bool) (c a b : Option Sort) (x y : Value) → IsOf a x → IsOf b y → IsOf (ite_sort c a b) (cond p x y)
is_of_ite p (Some truth) (Some s) (Some t) x y h k =
    is_of_if (same_sort s t) s (cond p x y) (λ e. chosen p s x y h (subst (λ r. HasSort y r) (same_from_sorts s t e) k))
is_of_ite p _ _ _ x y h k = tt

read_below : (a d : ℕ) (m i : Value) → HasSort m (memory a d) → as_number i < 2 ^ a → slice_index (as_words m) (as_number i) < 2 ^ d
read_below a d (truth_value b) i h k = absurd (false≢true h)
read_below a d (number n) i h k = absurd (false≢true h)
read_below a d (words ws) i h k =
    let l : as_number i < length ws = omega (arith, length-memory a d ws h) in
    memory_word a d ws (as_number i) (slice_index ws (as_number i)) h k (sym (get_or_default_zero ws (as_number i) (slice_index ws (as_number i)) l))

is_of_load : (a b : Option Sort) (m i : Value) → IsOf a m → IsOf b i → IsOf (load_sort a b) (number (slice_index (as_words m) (as_number i)))
is_of_load (Some (memory a d)) (Some (word w)) m i h k =
    is_of_if (w == a) (word d) (number (slice_index (as_words m) (as_number i))) (λ t. test_of (slice_index (as_words m) (as_number i)) (2 ^ d) (read_below a d m i h (subst (λ n. as_number i < 2 ^ n) (same_number w a t) (number_below w i k))))
is_of_load _ _ m i h k = tt

written : (a d : ℕ) (m : Value) (k x : ℕ) → HasSort m (memory a d) → x < 2 ^ d → HasSort (words (slice_set (as_words m) k x)) (memory a d)
written a d (truth_value b) k x h l = absurd (false≢true h)
written a d (number n) k x h l = absurd (false≢true h)
written a d (words ws) k x h l =
    let t = both (length ws == 2 ^ a) (all_below d ws) h in
    both_from (length (slice_set ws k x) == 2 ^ a) (all_below d (slice_set ws k x)) (ap (λ n. n == 2 ^ a) (length-set ws k x) ∙ t.0) (all_below-set d ws k x t.1 (test_of x (2 ^ d) l))

is_of_store : (a b c : Option Sort) (m i x : Value) → IsOf a m → IsOf c x → IsOf (store_sort a b c) (words (slice_set (as_words m) (as_number i) (as_number x)))
is_of_store (Some (memory a d)) (Some (word w)) (Some (word u)) m i x h k =
    is_of_if ((w == a) && (u == d)) (memory a d) (words (slice_set (as_words m) (as_number i) (as_number x))) (λ t. written a d m (as_number i) (as_number x) h (subst (λ n. as_number x < 2 ^ n) (same_number u d (both (w == a) (u == d) t).1) (number_below u x k)))
is_of_store _ _ _ m i x h k = tt

pub IsOf-val : (v : Valuation) (t : Term) → NamesFit v t → IsOf (sort_of t) (val t v)
IsOf-val v (name n s) f = is_of_if (is_sort s) s (v n) (λ _. f)
IsOf-val v (constant_truth b) f = refl
IsOf-val v (const w x) f = is_of_if (is_width w && nat_lt x (2 ^ w)) (word w) (number x) (λ t. (both (is_width w) (nat_lt x (2 ^ w)) t).1)
IsOf-val v (not x) f = is_of_not (sort_of x) (val x v) (IsOf-val v x f)
IsOf-val v (and x y) f = is_of_and (sort_of x) (sort_of y) (val x v) (val y v) (IsOf-val v x f.0) (IsOf-val v y f.1)
IsOf-val v (or x y) f = is_of_or (sort_of x) (sort_of y) (val x v) (val y v) (IsOf-val v x f.0) (IsOf-val v y f.1)
IsOf-val v (xor x y) f = is_of_xor (sort_of x) (sort_of y) (val x v) (val y v) (IsOf-val v x f.0) (IsOf-val v y f.1)
IsOf-val v (neg x) f = is_of_neg (sort_of x) (val x v)
IsOf-val v (add x y) f = is_of_number word_add add_below (sort_of x) (sort_of y) (val x v) (val y v) (IsOf-val v x f.0)
IsOf-val v (sub x y) f = is_of_number word_sub sub_below (sort_of x) (sort_of y) (val x v) (val y v) (IsOf-val v x f.0)
IsOf-val v (mul x y) f = is_of_number word_mul mul_below (sort_of x) (sort_of y) (val x v) (val y v) (IsOf-val v x f.0)
IsOf-val v (shl x y) f = is_of_number word_shl shl_below (sort_of x) (sort_of y) (val x v) (val y v) (IsOf-val v x f.0)
IsOf-val v (lshr x y) f = is_of_number word_lshr lshr_below (sort_of x) (sort_of y) (val x v) (val y v) (IsOf-val v x f.0)
IsOf-val v (ashr x y) f = is_of_number word_ashr ashr_below (sort_of x) (sort_of y) (val x v) (val y v) (IsOf-val v x f.0)
IsOf-val v (eq x y) f = is_of_truth (same_bits_sort (sort_of x) (sort_of y)) _
IsOf-val v (ult x y) f = is_of_truth (same_word_sort (sort_of x) (sort_of y)) _
IsOf-val v (ule x y) f = is_of_truth (same_word_sort (sort_of x) (sort_of y)) _
IsOf-val v (slt x y) f = is_of_truth (same_word_sort (sort_of x) (sort_of y)) _
IsOf-val v (sle x y) f = is_of_truth (same_word_sort (sort_of x) (sort_of y)) _
IsOf-val v (concat x y) f = is_of_concat (sort_of x) (sort_of y) (val x v) (val y v) (IsOf-val v x f.0) (IsOf-val v y f.1)
IsOf-val v (extract h l x) f = is_of_extract h l (sort_of x) (val x v)
IsOf-val v (zext n x) f = is_of_zext n (sort_of x) (val x v) (IsOf-val v x f)
IsOf-val v (sext n x) f = is_of_sext n (sort_of x) (val x v) (IsOf-val v x f)
IsOf-val v (ite c x y) f = is_of_ite (as_truth (val c v)) (sort_of c) (sort_of x) (sort_of y) (val x v) (val y v) (IsOf-val v x f.1) (IsOf-val v y f.2)
IsOf-val v (load m i) f = is_of_load (sort_of m) (sort_of i) (val m v) (val i v) (IsOf-val v m f.0) (IsOf-val v i f.1)
IsOf-val v (store m i x) f = is_of_store (sort_of m) (sort_of i) (sort_of x) (val m v) (val i v) (val x v) (IsOf-val v m f.0) (IsOf-val v x f.2)

-- the value of a term is of the term's sort
pub HasSort-val : (v : Valuation) (t : Term) (s : Sort) → NamesFit v t → sort_of t ≡ Some s → HasSort (val t v) s
HasSort-val v t s f e = rw e at (IsOf-val v t f)
