-- Values keep their sorts where a script sets them.
use Rattle.std.proofs.Common.{◌≡◌, ◌∙◌, ℕ, zero, suc, ◌<◌, ◌^◌, true, ◌==◌, nat_lt, List, [], ◌∷◌, ◌++◌, length, get_or, set, map, take, slice_get, Some, replicate, refl, ap, arith, pow_pos, add-one, ◌+◌}
use Rattle.std.proofs.lemmas.Bool.{and_parts, and_from, false≢true}
use Rattle.std.proofs.lemmas.Bool.Decides.{nat_tests}
use Rattle.std.proofs.lemmas.List.{length-set}
use Rattle.wb_values.specs.Value.{Name, Sort, truth, word, memory, Value, truth_value, number, words, all_below, is_of_sort, Entries}
use Rattle.scripts.specs.Script.{with_word, zero_value}
use Rattle.wb_terms.specs.Environment.{AreOfSorts}
use Rattle.v_design.specs.Registers.{CountedBits}
use Rattle.v_design.specs.Parts.{is_word, are_words}
use Rattle.ila_sim.specs.declared.set.Set.{Set}
use Rattle.ila_sim.specs.Kinds.{fits_of, addresses_of}
use Rattle.ila_sim.specs.Outcomes.{with_set, with_all}
use Rattle.ila_sim.specs.Sets.{suits, suits_at, is_word_of, is_right, are_right}
use Rattle.v_sim.specs.Names.{kind_of, register_settable, register_settables, input_settable, input_settables}
use Rattle.v_sim.specs.Texts.{zeros, number_zeros}
use Rattle.v_sim.proofs.Lists.{left_part, right_part}
use Rattle.v_sim.proofs.Values.{zero_sorted}

below_set : (d : ℕ) (xs : List ℕ) (k v : ℕ) → all_below d xs ≡ true → nat_lt v (2 ^ d) ≡ true → all_below d (set xs k v) ≡ true
below_set d [] k v h g = refl
below_set d (x ∷ xs) zero v h g = and_from _ _ g (and_parts (nat_lt x (2 ^ d)) _ h).1
below_set d (x ∷ xs) (suc k) v h g =
    let p = and_parts (nat_lt x (2 ^ d)) (all_below d xs) h in
    and_from _ _ p.0 (below_set d xs k v p.1 g)

memory_set : (a d : ℕ) (xs : List ℕ) (k v : ℕ) → is_of_sort (memory a d) (words xs) ≡ true → nat_lt v (2 ^ d) ≡ true → is_of_sort (memory a d) (words (set xs k v)) ≡ true
memory_set a d xs k v h g =
    let p = and_parts (length xs == 2 ^ a) (all_below d xs) h in
    and_from _ _ (ap (λ n. n == 2 ^ a) (length-set xs k v) ∙ p.0) (below_set d xs k v p.1 g)

-- ---- registers

fits_kind : (n : Name) (t : Sort) (c : CountedBits) (s : Set) → suits (register_settable n t c) s ≡ true → fits_of (kind_of t c) s.word s.value ≡ true
fits_kind n t c s h =
    (and_parts (fits_of (kind_of t c) s.word s.value) _ (and_parts (is_word_of (addresses_of (kind_of t c)) s.word) _ h).1).0

word_sorted : (n : Name) (t : Sort) (c : CountedBits) (x : Value) (s : Set) → is_of_sort t x ≡ true → suits (register_settable n t c) s ≡ true
    → is_of_sort t (with_word x s.word s.value) ≡ true
word_sorted n truth c (truth_value b) s h g = refl
word_sorted n truth c (number k) s h g = absurd (false≢true h)
word_sorted n truth c (words xs) s h g = absurd (false≢true h)
word_sorted n (word w) c (truth_value b) s h g = absurd (false≢true h)
word_sorted n (word w) c (number k) s h g = fits_kind n (word w) c s g
word_sorted n (word w) c (words xs) s h g = absurd (false≢true h)
word_sorted n (memory a d) c (truth_value b) s h g = absurd (false≢true h)
word_sorted n (memory a d) c (number k) s h g = absurd (false≢true h)
word_sorted n (memory a d) c (words xs) s h g = memory_set a d xs s.word s.value h (fits_kind n (memory a d) c s g)

set_sorted : (ns : Entries Sort) (cs : List CountedBits) (xs : List Value) (k : ℕ) (s : Set) → AreOfSorts ns xs → suits_at (register_settables ns cs) k s ≡ true
    → AreOfSorts ns (set xs k (with_word (get_or xs k (number 0)) s.word s.value))
set_sorted [] cs xs k s a h = absurd (false≢true h)
set_sorted (n ∷ ns) [] xs k s a h = absurd (false≢true h)
set_sorted (n ∷ ns) (c ∷ cs) [] k s a h = absurd a
set_sorted (n ∷ ns) (c ∷ cs) (x ∷ xs) zero s a h = (word_sorted n.0 n.1 c x s a.0 h, a.1)
set_sorted (n ∷ ns) (c ∷ cs) (x ∷ xs) (suc k) s a h = (a.0, set_sorted ns cs xs k s a.1 h)

pub registers_sorted : (ns : Entries Sort) (cs : List CountedBits) (xs : List Value) (sets : List Set) → AreOfSorts ns xs
    → are_right (register_settables ns cs) sets ≡ true → AreOfSorts ns (with_all xs sets)
registers_sorted ns cs xs [] a h = a
registers_sorted ns cs xs (s ∷ sets) a h =
    let ss = register_settables ns cs in
    registers_sorted ns cs (with_set xs s) sets (set_sorted ns cs xs s.place s a (left_part (is_right ss s) (are_right ss sets) h)) (right_part (is_right ss s) (are_right ss sets) h)

pub zeros_sorted : (ns : Entries Sort) → AreOfSorts ns (zeros ns)
zeros_sorted [] = tt
zeros_sorted (n ∷ ns) = (zero_sorted n.1, zeros_sorted ns)

pub zero_there : (ns : Entries Sort) (k : ℕ) (d : Name × Sort) → k < length ns → slice_get (zeros ns) k ≡ Some (zero_value (get_or ns k d).1)
zero_there [] k d l = absurd (omega (arith, l))
zero_there (n ∷ ns) zero d l = refl
zero_there (n ∷ ns) (suc k) d l = zero_there ns k d (omega (arith, l))

-- ---- inputs

input_sorted : (n : Name) (t : Sort) (x : Value) (s : Set) → is_word t ≡ true → is_of_sort t x ≡ true → suits (input_settable n t) s ≡ true
    → is_of_sort t (with_word x s.word s.value) ≡ true
input_sorted n truth x s w h g = absurd (false≢true w)
input_sorted n (memory a d) x s w h g = absurd (false≢true w)
input_sorted n (word u) (truth_value b) s w h g = absurd (false≢true h)
input_sorted n (word u) (words xs) s w h g = absurd (false≢true h)
input_sorted n (word u) (number k) s w h g = (and_parts (s.word == 0) (nat_lt s.value (2 ^ u)) g).1

fed_sorted : (ns : Entries Sort) (xs : List Value) (k : ℕ) (s : Set) → are_words ns ≡ true → AreOfSorts ns xs → suits_at (input_settables ns) k s ≡ true
    → AreOfSorts ns (set xs k (with_word (get_or xs k (number 0)) s.word s.value))
fed_sorted [] xs k s w a h = absurd (false≢true h)
fed_sorted (n ∷ ns) [] k s w a h = absurd a
fed_sorted (n ∷ ns) (x ∷ xs) zero s w a h = (input_sorted n.0 n.1 x s (and_parts (is_word n.1) _ w).0 a.0 h, a.1)
fed_sorted (n ∷ ns) (x ∷ xs) (suc k) s w a h = (a.0, fed_sorted ns xs k s (and_parts (is_word n.1) _ w).1 a.1 h)

pub inputs_sorted : (ns : Entries Sort) (xs : List Value) (sets : List Set) → are_words ns ≡ true → AreOfSorts ns xs
    → are_right (input_settables ns) sets ≡ true → AreOfSorts ns (with_all xs sets)
inputs_sorted ns xs [] w a h = a
inputs_sorted ns xs (s ∷ sets) w a h =
    let ss = input_settables ns in
    inputs_sorted ns (with_set xs s) sets w (fed_sorted ns xs s.place s w a (left_part (is_right ss s) (are_right ss sets) h)) (right_part (is_right ss s) (are_right ss sets) h)

zero_word : (s : Sort) → is_word s ≡ true → is_of_sort s (number 0) ≡ true
zero_word truth h = absurd (false≢true h)
zero_word (memory a d) h = absurd (false≢true h)
zero_word (word w) h = let p : 0 < 2 ^ w = pow_pos w in grind (arith, nat_tests, p)

pub number_zeros_sorted : (ns : Entries Sort) → are_words ns ≡ true → AreOfSorts ns (number_zeros ns)
number_zeros_sorted [] h = tt
number_zeros_sorted (n ∷ ns) h = let p = and_parts (is_word n.1) (are_words ns) h in (zero_word n.1 p.0, number_zeros_sorted ns p.1)

pub numbers_are : (ns : Entries Sort) (n : ℕ) → n ≡ length ns → map number (replicate n 0) ≡ number_zeros ns
numbers_are [] n e = ap (λ k. map number (replicate k 0)) e
numbers_are (m ∷ ns) n e = ap (λ k. map number (replicate k 0)) e ∙ ap (λ xs. number 0 ∷ xs) (numbers_are ns (length ns) refl)

-- ---- the code's lists

pub number_set : (xs : List ℕ) (k w x : ℕ) → map number (set xs k x) ≡ set (map number xs) k (with_word (get_or (map number xs) k (number 0)) w x)
number_set [] k w x = refl
number_set (y ∷ xs) zero w x = refl
number_set (y ∷ xs) (suc k) w x = ap (λ ys. number y ∷ ys) (number_set xs k w x)

taken : {X : Type 0} (xs : List X) (k : ℕ) (y : X) → slice_get xs k ≡ Some y → take (suc k) xs ≡ take k xs ++ y ∷ []
taken [] k y e = absurd cc
taken (x ∷ xs) zero y e = let same : x ≡ y = cc in λ i. same i ∷ []
taken (x ∷ xs) (suc k) y e = ap (λ ys. x ∷ ys) (taken xs k y e)

pub taken_more : {X : Type 0} (xs : List X) (k : ℕ) (y : X) → slice_get xs k ≡ Some y → take (k + 1) xs ≡ take k xs ++ y ∷ []
taken_more xs k y e = ap (λ j. take j xs) (add-one k) ∙ taken xs k y e
