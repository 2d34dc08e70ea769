-- What a script sets of registers are bits that count, so what does not count stays 0.
use Rattle.std.proofs.Common.{◌≡◌, ◌∙◌, ℕ, zero, suc, ◌^◌, Bool, true, false, List, [], ◌∷◌, get_or, set, slice_get, slice_index, Some, refl, sym, ap, subst, bit_and, ◌==◌}
use Rattle.std.specs.Prelude.{⊤}
use Rattle.std.proofs.lemmas.Bool.{and_parts, and_from, false≢true}
use Rattle.std.proofs.lemmas.Option.{same_Some}
use Rattle.wb_values.specs.Value.{Name, Sort, truth, word, memory, Value, truth_value, number, words, is_of_sort, Entries}
use Rattle.verilog_meaning.specs.Register.{is_set, value_bit}
use Rattle.scripts.specs.Script.{with_word, zero_value}
use Rattle.wb_terms.specs.Environment.{AreOfSorts}
use Rattle.v_design.specs.Registers.{CountedBits}
use Rattle.v_design.specs.Parts.{Parts, registers_of, are_bits_of, are_bits_for}
use Rattle.mapped_designs.specs.Runs.{IsRestZero}
use Rattle.ila_sim.specs.declared.set.Set.{Set}
use Rattle.ila_sim.specs.Kinds.{fits_of, addresses_of}
use Rattle.ila_sim.specs.Outcomes.{with_set, with_all}
use Rattle.ila_sim.specs.Sets.{suits, suits_at, is_word_of, is_right, are_right}
use Rattle.v_sim.specs.Names.{kind_of, register_settable, register_settables, names_by}
use Rattle.v_sim.specs.Texts.{zeros, first_values}
use Rattle.v_sim.proofs.Bits.{set-none, within_mask, zero_words, same_number}
use Rattle.v_sim.proofs.Lists.{left_part, right_part}
use Rattle.v_sim.proofs.Sorted.{zeros_sorted, registers_sorted}

-- each bit of the value that is not one of these is 0
abbrev IsRest : CountedBits → Value → Type 0
IsRest c x = (w b : ℕ) → is_set (slice_index c.masks w) b ≡ false → value_bit x w b ≡ false

-- so for each value of a list
abbrev AreRest : List CountedBits → List Value → Type 0
AreRest [] xs = ⊤
AreRest (c ∷ cs) [] = ⊤
AreRest (c ∷ cs) (x ∷ xs) = IsRest c x × AreRest cs xs

-- ---- zeros

zero_rest : (s : Sort) (c : CountedBits) → are_bits_of s c ≡ true → IsRest c (zero_value s)
zero_rest truth c h w b u = absurd (false≢true h)
zero_rest (word n) c h zero b u = set-none b
zero_rest (word n) c h (suc w) b u = refl
zero_rest (memory a n) c h w b u = ap (λ y. is_set y b) (zero_words (2 ^ a) w) ∙ set-none b

zeros_rest : (ns : Entries Sort) (cs : List CountedBits) → are_bits_for ns cs ≡ true → AreRest cs (zeros ns)
zeros_rest ns [] h = tt
zeros_rest [] (c ∷ cs) h = tt
zeros_rest (n ∷ ns) (c ∷ cs) h =
    let p = and_parts (are_bits_of n.1 c) (are_bits_for ns cs) h in
    (zero_rest n.1 c p.0, zeros_rest ns cs p.1)

-- ---- a setting

-- a number with bits alone that count
masked : (m x b : ℕ) → (bit_and x m == x) ≡ true → is_set m b ≡ false → is_set x b ≡ false
masked m x b h u = unset (is_set x b) refl
  where
    unset : (t : Bool) → is_set x b ≡ t → t ≡ false
    unset true e = absurd (false≢true (sym u ∙ within_mask x m h b e))
    unset false e = refl

-- a word of a list set
word_rest : (ys : List ℕ) (k j x b : ℕ) → (k ≡ j → is_set x b ≡ false) → is_set (slice_index ys j) b ≡ false → is_set (slice_index (set ys k x) j) b ≡ false
word_rest [] k j x b f h = h
word_rest (y ∷ ys) zero zero x b f h = f refl
word_rest (y ∷ ys) zero (suc j) x b f h = h
word_rest (y ∷ ys) (suc k) zero x b f h = h
word_rest (y ∷ ys) (suc k) (suc j) x b f h = word_rest ys k j x b (λ e. f (ap suc e)) h

-- the mask of the word that is set
mask_of : (n : Name) (t : Sort) (c : CountedBits) (s : Set) → suits (register_settable n t c) s ≡ true
    → (bit_and s.value (slice_index c.masks s.word) == s.value) ≡ true
mask_of n t c s h =
    (and_parts (fits_of (kind_of t c) s.word s.value) _ (and_parts (is_word_of (addresses_of (kind_of t c)) s.word) _ h).1).1

-- the number of the word, where the register is no memory
first_word : (n : Name) (w : ℕ) (c : CountedBits) (s : Set) → suits (register_settable n (word w) c) s ≡ true → s.word ≡ 0
first_word n w c s h = same_number s.word 0 (and_parts (s.word == 0) _ h).0

set_rest : (n : Name) (t : Sort) (c : CountedBits) (x : Value) (s : Set) → is_of_sort t x ≡ true → suits (register_settable n t c) s ≡ true → IsRest c x
    → IsRest c (with_word x s.word s.value)
set_rest n truth c (truth_value t) s a g h w b u = refl
set_rest n truth c (number y) s a g h w b u = absurd (false≢true a)
set_rest n truth c (words ys) s a g h w b u = absurd (false≢true a)
set_rest n (word m) c (truth_value t) s a g h w b u = absurd (false≢true a)
set_rest n (word m) c (number y) s a g h zero b u =
    masked (slice_index c.masks s.word) s.value b (mask_of n (word m) c s g) (ap (λ j. is_set (slice_index c.masks j) b) (first_word n m c s g) ∙ u)
set_rest n (word m) c (number y) s a g h (suc w) b u = refl
set_rest n (word m) c (words ys) s a g h w b u = absurd (false≢true a)
set_rest n (memory l m) c (truth_value t) s a g h w b u = absurd (false≢true a)
set_rest n (memory l m) c (number y) s a g h w b u = absurd (false≢true a)
set_rest n (memory l m) c (words ys) s a g h w b u =
    word_rest ys s.word w s.value b
    (λ e. masked (slice_index c.masks s.word) s.value b (mask_of n (memory l m) c s g) (ap (λ j. is_set (slice_index c.masks j) b) e ∙ u)) (h w b u)

one_rest : (ns : Entries Sort) (cs : List CountedBits) (xs : List Value) (k : ℕ) (s : Set) → AreOfSorts ns xs → suits_at (register_settables ns cs) k s ≡ true → AreRest cs xs
    → AreRest cs (set xs k (with_word (get_or xs k (number 0)) s.word s.value))
one_rest [] cs xs k s a h r = absurd (false≢true h)
one_rest (n ∷ ns) [] xs k s a h r = absurd (false≢true h)
one_rest (n ∷ ns) (c ∷ cs) [] k s a h r = absurd a
one_rest (n ∷ ns) (c ∷ cs) (x ∷ xs) zero s a h r = (set_rest n.0 n.1 c x s a.0 h r.0, r.1)
one_rest (n ∷ ns) (c ∷ cs) (x ∷ xs) (suc k) s a h r = (r.0, one_rest ns cs xs k s a.1 h r.1)

all_rest : (ns : Entries Sort) (cs : List CountedBits) (xs : List Value) (sets : List Set) → AreOfSorts ns xs → are_right (register_settables ns cs) sets ≡ true → AreRest cs xs
    → AreRest cs (with_all xs sets)
all_rest ns cs xs [] a h r = r
all_rest ns cs xs (s ∷ sets) a h r =
    let ss = register_settables ns cs in
    let one = left_part (is_right ss s) (are_right ss sets) h in
    all_rest ns cs (with_set xs s) sets (registers_sorted ns cs xs (s ∷ []) a (and_from (is_right ss s) true one refl)) (right_part (is_right ss s) (are_right ss sets) h)
    (one_rest ns cs xs s.place s a one r)

-- ---- the first registers

rest_there : (cs : List CountedBits) (xs : List Value) → AreRest cs xs → (k w b : ℕ) (c : CountedBits) (y : Value) → slice_get cs k ≡ Some c → slice_get xs k ≡ Some y
    → is_set (slice_index c.masks w) b ≡ false → value_bit y w b ≡ false
rest_there [] xs r k w b c y e f u = absurd cc
rest_there (d ∷ cs) [] r k w b c y e f u = absurd cc
rest_there (d ∷ cs) (x ∷ xs) r zero w b c y e f u =
    let bits : d ≡ c = same_Some d c e in
    let value : x ≡ y = same_Some x y f in
    subst (λ z. value_bit z w b ≡ false) value (r.0 w b (ap (λ (a : CountedBits). is_set (slice_index a.masks w) b) bits ∙ u))
rest_there (d ∷ cs) (x ∷ xs) r (suc k) w b c y e f u = rest_there cs xs r.1 k w b c y e f u

pub first_rest : (e : Parts) (sets : List Set) (values : List Value) → are_bits_for (registers_of e) e.bits ≡ true → are_right (names_by e).states sets ≡ true
    → values ≡ first_values e sets → IsRestZero e values
first_rest e sets values counting right is k w b c y at_k is_y unset =
    let ns = registers_of e in
    let rest = all_rest ns e.bits (zeros ns) sets (zeros_sorted ns) right (zeros_rest ns e.bits counting) in
    rest_there e.bits (first_values e sets) rest k w b c y at_k (ap (λ vs. slice_get vs k) (sym is) ∙ is_y) unset
