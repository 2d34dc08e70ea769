-- Two values of one object are two numbers, or as many words; two that are read differ at a bit, or what is read of them is the same.
use Rattle.std.proofs.Common.{◌≡◌, ◌≢◌, ℕ, ◌+◌, ◌-◌, ◌^◌, ◌<◌, ◌≤◌, Bool, true, false, not, ◌&&◌, ◌⊎◌, inl, inr, sym, refl, ap, ◌∙◌, subst, List, length, slice_index, ℤ, pos, negsuc, int_le, int_lt, ◌+ℤ◌, IsTrue, arith, pow_pos, mod-lt, le_antisymm}
use Rattle.std.specs.Prelude.{◌==◌}
use Rattle.std.proofs.lemmas.Bool.{cases_lt}
use Rattle.std.proofs.lemmas.Bool.Decides.{nat_tests}
use Rattle.std.proofs.lemmas.Int.{ints}
use Rattle.wb_values.specs.Value.{Value, truth_value, number as a_number, words, as_number, as_words}
use Rattle.verilog_meaning.specs.Expression.{Object, object_width, is_memory, Bits, bits_from, bits_taken}
use Rattle.verilog_meaning.specs.Register.{is_set, is_within, value_bit, word_count}
use Rattle.verilog_meaning.specs.Settled.{IsAddressWidth, AreWords, IsValueOf}
use Rattle.verilog_settled.proofs.Bits.{DifferBelow, one_or_differ, set_from_bit, bit_of_part, bit_before_part, bit_within_part, unset_past}

-- ---- values of one object

abbrev pub Narrow : ℕ → List ℕ → Type 0
Narrow w xs = (k : ℕ) → slice_index xs k < 2 ^ w

abbrev pub Alike : Object → Value → Value → Type 0
Alike o (a_number x) (a_number y) = IsTrue (not (is_memory o)) × (x < 2 ^ object_width o) × (y < 2 ^ object_width o)
Alike o (words xs) (words ys) =
    IsTrue (is_memory o) × (length xs ≡ length ys) × (0 < length xs) × Narrow (object_width o) xs × Narrow (object_width o) ys
Alike o (a_number x) (words ys) = ⊥
Alike o (a_number x) (truth_value b) = ⊥
Alike o (words xs) (a_number y) = ⊥
Alike o (words xs) (truth_value b) = ⊥
Alike o (truth_value b) (a_number y) = ⊥
Alike o (truth_value b) (words ys) = ⊥
Alike o (truth_value b) (truth_value c) = ⊥

pub not_both : (b : Bool) → IsTrue (not b) → IsTrue b → ⊥
not_both true h k = absurd (let e : false ≡ true = h in cc)
not_both false h k = absurd (let e : false ≡ true = k in cc)

same_width : (n a b : ℕ) → IsAddressWidth n a → IsAddressWidth n b → a ≡ b
same_width n a b p q = le_antisymm (p.least b q.at_least_one q.enough) (q.least a p.at_least_one p.enough)

same_length : (n w : ℕ) (xs ys : List ℕ) → AreWords n w xs → AreWords n w ys → length xs ≡ length ys
same_length n w xs ys p q =
    p.all ∙ ap (λ a. 2 ^ a) (same_width n p.address_width q.address_width p.is_address_width q.is_address_width) ∙ sym q.all

pub some_words : (n w : ℕ) (xs : List ℕ) → AreWords n w xs → 0 < length xs
some_words n w xs p = subst (λ l. 0 < l) (sym p.all) (pow_pos p.address_width)

pub alike_values : (o : Object) (x y : Value) → IsValueOf o x → IsValueOf o y → Alike o x y
alike_values o (a_number x) (a_number y) p q = (p.0, p.1, q.1)
alike_values o (words xs) (words ys) p q =
    (p.0, same_length (word_count o) (object_width o) xs ys p.1 q.1, some_words (word_count o) (object_width o) xs p.1, p.1.narrow, q.1.narrow)
alike_values o (a_number x) (words ys) p q = not_both (is_memory o) p.0 q.0
alike_values o (words xs) (a_number y) p q = not_both (is_memory o) q.0 p.0
alike_values o (truth_value b) y p q = absurd p
alike_values o (a_number x) (truth_value b) p q = q
alike_values o (words xs) (truth_value b) p q = q

pub alike_turned : (o : Object) (x y : Value) → Alike o x y → Alike o y x
alike_turned o (a_number x) (a_number y) h = (h.0, h.2, h.1)
alike_turned o (words xs) (words ys) h = (h.0, sym h.1, subst (λ l. 0 < l) h.1 h.2, h.4, h.3)
alike_turned o (a_number x) (words ys) h = h
alike_turned o (words xs) (a_number y) h = h
alike_turned o (truth_value b) (a_number y) h = h
alike_turned o (truth_value b) (words ys) h = h
alike_turned o (truth_value b) (truth_value c) h = h
alike_turned o (a_number x) (truth_value c) h = h
alike_turned o (words xs) (truth_value c) h = h

pub alike_further : (o : Object) (x y z : Value) → Alike o x y → Alike o y z → Alike o x z
alike_further o (a_number x) (a_number y) (a_number z) h k = (h.0, h.1, k.2)
alike_further o (words xs) (words ys) (words zs) h k = (h.0, h.1 ∙ k.1, h.2, h.3, k.4)
alike_further o (a_number x) (a_number y) (words zs) h k = absurd k
alike_further o (a_number x) (a_number y) (truth_value c) h k = absurd k
alike_further o (words xs) (words ys) (a_number z) h k = absurd k
alike_further o (words xs) (words ys) (truth_value c) h k = absurd k
alike_further o (a_number x) (words ys) z h k = absurd h
alike_further o (a_number x) (truth_value b) z h k = absurd h
alike_further o (words xs) (a_number y) z h k = absurd h
alike_further o (words xs) (truth_value b) z h k = absurd h
alike_further o (truth_value b) (a_number y) z h k = absurd h
alike_further o (truth_value b) (words ys) z h k = absurd h
alike_further o (truth_value b) (truth_value c) z h k = absurd h

-- ---- parts of two numbers

-- A bit at which two parts differ stands at a bit at which the numbers differ.
pub part_bit : (w : ℕ) (low : ℤ) (n x y j : ℕ) → x < 2 ^ w → y < 2 ^ w → j < n → is_set (bits_from low n x) j ≢ is_set (bits_from low n y) j
    → (b : ℕ) × (low +ℤ pos j ≡ pos b) × (b < w) × (is_set x b ≢ is_set y b)
part_bit w (pos k) n x y j p q h d = in_range (cases_lt (k + j) w)
  where
    moved : is_set x (k + j) ≢ is_set y (k + j)
    moved e =
        d (set_from_bit (bits_from (pos k) n x) x j (k + j) (bit_of_part k n x j (k + j) h refl) ∙ e
        ∙ sym (set_from_bit (bits_from (pos k) n y) y j (k + j) (bit_of_part k n y j (k + j) h refl)))

    in_range : (k + j < w) ⊎ (w ≤ k + j) → (b : ℕ) × (pos k +ℤ pos j ≡ pos b) × (b < w) × (is_set x b ≢ is_set y b)
    in_range (inl g) = (k + j, refl, g, moved)
    in_range (inr g) = absurd (moved (unset_past w x (k + j) p g ∙ sym (unset_past w y (k + j) q g)))
part_bit w (negsuc k) n x y j p q h d = by_place (cases_lt j (k + 1))
  where
    moved : k + 1 ≤ j → is_set x (j - (k + 1)) ≢ is_set y (j - (k + 1))
    moved g e =
        d (set_from_bit (bits_from (negsuc k) n x) x j (j - (k + 1)) (bit_within_part k n x j h g) ∙ e
        ∙ sym (set_from_bit (bits_from (negsuc k) n y) y j (j - (k + 1)) (bit_within_part k n y j h g)))

    in_range : k + 1 ≤ j → (j - (k + 1) < w) ⊎ (w ≤ j - (k + 1)) → (b : ℕ) × (negsuc k +ℤ pos j ≡ pos b) × (b < w) × (is_set x b ≢ is_set y b)
    in_range g (inl l) = (j - (k + 1), (let m : negsuc k +ℤ pos j ≡ pos (j - (k + 1)) = omega (arith, ints, g) in m), l, moved g)
    in_range g (inr l) = absurd (moved g (unset_past w x (j - (k + 1)) p l ∙ sym (unset_past w y (j - (k + 1)) q l)))

    by_place : (j < k + 1) ⊎ (k + 1 ≤ j) → (b : ℕ) × (negsuc k +ℤ pos j ≡ pos b) × (b < w) × (is_set x b ≢ is_set y b)
    by_place (inl g) = absurd (d (ap (λ m. m == 1) (bit_before_part k n x j h g ∙ sym (bit_before_part k n y j h g))))
    by_place (inr g) = in_range g (cases_lt (j - (k + 1)) w)

within_from : (low : ℤ) (n j b : ℕ) → low +ℤ pos j ≡ pos b → j < n → (int_le low (pos b) && int_lt (pos b) (low +ℤ pos n)) ≡ true
within_from low n j b e h = grind (arith, ints, nat_tests)

-- Parts of two numbers are one, or the numbers differ at a bit of the part.
pub part_or_differ : (w : ℕ) (p : Bits) (x y : ℕ) → x < 2 ^ w → y < 2 ^ w
    → (bits_taken x p ≡ bits_taken y p) ⊎ ((b : ℕ) × (b < w) × IsTrue (is_within p b) × (is_set x b ≢ is_set y b))
part_or_differ w p x y h k = found (one_or_differ p.count (bits_taken x p) (bits_taken y p) (below p.low x) (below p.low y))
  where
    below : (low : ℤ) (z : ℕ) → bits_from low p.count z < 2 ^ p.count
    below (pos i) z = mod-lt _ (pow_pos p.count)
    below (negsuc i) z = mod-lt _ (pow_pos p.count)

    found : (bits_taken x p ≡ bits_taken y p) ⊎ DifferBelow p.count (bits_taken x p) (bits_taken y p)
        → (bits_taken x p ≡ bits_taken y p) ⊎ ((b : ℕ) × (b < w) × IsTrue (is_within p b) × (is_set x b ≢ is_set y b))
    found (inl e) = inl e
    found (inr d) =
        let at : (b : ℕ) × (p.low +ℤ pos d.0 ≡ pos b) × (b < w) × (is_set x b ≢ is_set y b) = part_bit w p.low p.count x y d.0 h k d.1 d.2 in
        inr (at.0, at.2, within_from p.low p.count d.0 at.0 at.1 d.1, at.3)

-- ---- what is read of two values

pub numbers_below : (o : Object) (x y : Value) → Alike o x y → as_number x < 2 ^ object_width o
numbers_below o (a_number x) (a_number y) h = h.1
numbers_below o (words xs) (words ys) h = pow_pos (object_width o)
numbers_below o (a_number x) (words ys) h = absurd h
numbers_below o (a_number x) (truth_value c) h = absurd h
numbers_below o (words xs) (a_number y) h = absurd h
numbers_below o (words xs) (truth_value c) h = absurd h
numbers_below o (truth_value b) (a_number y) h = absurd h
numbers_below o (truth_value b) (words ys) h = absurd h
numbers_below o (truth_value b) (truth_value c) h = absurd h

pub words_below : (o : Object) (x y : Value) (k : ℕ) → Alike o x y → slice_index (as_words x) k < 2 ^ object_width o
words_below o (a_number x) (a_number y) k h = pow_pos (object_width o)
words_below o (words xs) (words ys) k h = h.3 k
words_below o (a_number x) (words ys) k h = absurd h
words_below o (a_number x) (truth_value c) k h = absurd h
words_below o (words xs) (a_number y) k h = absurd h
words_below o (words xs) (truth_value c) k h = absurd h
words_below o (truth_value b) (a_number y) k h = absurd h
words_below o (truth_value b) (words ys) k h = absurd h
words_below o (truth_value b) (truth_value c) k h = absurd h

-- what is so of the numbers' bits is so of the values' bits, and where one is no number both are read as 0
pub number_bit : (o : Object) (x y : Value) (b : ℕ) → Alike o x y → is_set (as_number x) b ≢ is_set (as_number y) b → value_bit x 0 b ≢ value_bit y 0 b
number_bit o (a_number x) (a_number y) b h d = d
number_bit o (words xs) (words ys) b h d = absurd (d refl)
number_bit o (a_number x) (words ys) b h d = absurd h
number_bit o (a_number x) (truth_value c) b h d = absurd h
number_bit o (words xs) (a_number y) b h d = absurd h
number_bit o (words xs) (truth_value c) b h d = absurd h
number_bit o (truth_value a) (a_number y) b h d = absurd h
number_bit o (truth_value a) (words ys) b h d = absurd h
number_bit o (truth_value a) (truth_value c) b h d = absurd h

pub word_bit : (o : Object) (x y : Value) (k b : ℕ) → Alike o x y → is_set (slice_index (as_words x) k) b ≢ is_set (slice_index (as_words y) k) b
    → value_bit x k b ≢ value_bit y k b
word_bit o (words xs) (words ys) k b h d = d
word_bit o (a_number x) (a_number y) k b h d = absurd (d refl)
word_bit o (a_number x) (words ys) k b h d = absurd h
word_bit o (a_number x) (truth_value c) k b h d = absurd h
word_bit o (words xs) (a_number y) k b h d = absurd h
word_bit o (words xs) (truth_value c) k b h d = absurd h
word_bit o (truth_value a) (a_number y) k b h d = absurd h
word_bit o (truth_value a) (words ys) k b h d = absurd h
word_bit o (truth_value a) (truth_value c) k b h d = absurd h
