-- What a write to a place leaves of a value: its kind, and each of its bits.
use Rattle.std.proofs.Common.{◌≡◌, ℕ, zero, suc, ◌^◌, ◌<◌, ◌≤◌, Bool, false, ◌&&◌, ◌==◌, ◌⊎◌, inl, inr, refl, sym, ap, ◌∙◌, subst, List, [], length, slice_index, slice_set, IsTrue, arith, eqb-true, length-set, get_or-set_same, get_or-set_other}
use Rattle.std.proofs.lemmas.Bool.{cases_lt, cases_eq, eqb-false, and_parts, and_cases, false≢true}
use Rattle.std.proofs.lemmas.List.{set_past, get_or_past}
use Rattle.wb_values.specs.Value.{Value, truth_value, number as a_number, words, as_words}
use Rattle.verilog_meaning.specs.Expression.{Object, object_width, is_memory, Bits}
use Rattle.verilog_meaning.specs.Statement.{Cell, variable_cell, word_cell, no_cell, with_bits, written_cell}
use Rattle.verilog_meaning.specs.Register.{is_set, is_within, value_bit}
use Rattle.verilog_settled.proofs.Bits.{offset, set_written, set_kept, with_bits_fits, unset_past}
use Rattle.verilog_settled.proofs.Values.{Narrow, Alike, not_both}

-- ---- kinds

-- A word is written to a memory alone.
abbrev pub FitsCell : Object → Cell → Type 0
FitsCell o variable_cell = Unit {0}
FitsCell o (word_cell k) = IsTrue (is_memory o)
FitsCell o no_cell = Unit {0}

-- A memory that was written as if it were none has no words, whatever is written then.
abbrev pub Spoiled : Object → Value → Type 0
Spoiled o x = IsTrue (is_memory o) × (as_words x ≡ [])

pub spoiled_stays : (o : Object) (old : Value) (c : Cell) (p : Bits) (x : ℕ) → Spoiled o old → Spoiled o (written_cell o old c p x)
spoiled_stays o old variable_cell p x h = (h.0, refl)
spoiled_stays o old (word_cell k) p x h = (
  h.0,
  ap (λ l. slice_set l k (with_bits (object_width o) (slice_index l k) p x)) h.1
      ∙ set_past [] k (with_bits (object_width o) (slice_index [] k) p x) (omega arith),
)
spoiled_stays o old no_cell p x h = h

pub never_spoiled : (o : Object) (z x : Value) → Alike o z x → Spoiled o x → ⊥
never_spoiled o (a_number a) (a_number b) h s = not_both (is_memory o) h.0 s.0
never_spoiled o (words xs) (words ys) h s =
    let l : length xs ≡ 0 = h.1 ∙ ap length s.1 in
    let g : 0 < length xs = h.2 in
    absurd (omega (arith, l, g))
never_spoiled o (a_number a) (words ys) h s = h
never_spoiled o (a_number a) (truth_value c) h s = h
never_spoiled o (words xs) (a_number b) h s = h
never_spoiled o (words xs) (truth_value c) h s = h
never_spoiled o (truth_value a) (a_number b) h s = h
never_spoiled o (truth_value a) (words ys) h s = h
never_spoiled o (truth_value a) (truth_value c) h s = h

word_narrow : (w : ℕ) (xs : List ℕ) (k y : ℕ) → Narrow w xs → y < 2 ^ w → Narrow w (slice_set xs k y)
word_narrow w xs k y h g j = by_place (cases_eq j k) (cases_lt k (length xs))
  where
    by_place : (j ≡ k) ⊎ (j ≡ k → ⊥) → (k < length xs) ⊎ (length xs ≤ k) → slice_index (slice_set xs k y) j < 2 ^ w
    by_place e (inr l) = subst (λ l2. slice_index l2 j < 2 ^ w) (sym (set_past xs k y l)) (h j)
    by_place (inl e) (inl l) =
        subst (λ i. slice_index (slice_set xs k y) i < 2 ^ w) (sym e) (subst (λ z. z < 2 ^ w) (sym (get_or-set_same xs k y 0 l)) g)
    by_place (inr n) (inl l) = subst (λ z. z < 2 ^ w) (sym (get_or-set_other xs k j y 0 n)) (h j)

pub kind_stays : (o : Object) (z old : Value) (c : Cell) (p : Bits) (x : ℕ) → FitsCell o c → Alike o z old
    → Alike o z (written_cell o old c p x) ⊎ Spoiled o (written_cell o old c p x)
kind_stays o (a_number a) (a_number b) variable_cell p x f h = inl (h.0, h.1, with_bits_fits (object_width o) b x p)
kind_stays o (a_number a) (a_number b) (word_cell k) p x f h = absurd (not_both (is_memory o) h.0 f)
kind_stays o (a_number a) (a_number b) no_cell p x f h = inl h
kind_stays o (words xs) (words ys) variable_cell p x f h = inr (h.0, refl)
kind_stays o (words xs) (words ys) (word_cell k) p x f h =
    inl (
      h.0,
      h.1 ∙ sym (length-set ys k (with_bits (object_width o) (slice_index ys k) p x)),
      h.2,
      h.3,
      word_narrow (object_width o) ys k (with_bits (object_width o) (slice_index ys k) p x) h.4 (with_bits_fits (object_width o) (slice_index ys k) x p),
    )
kind_stays o (words xs) (words ys) no_cell p x f h = inl h
kind_stays o (a_number a) (words ys) c p x f h = absurd h
kind_stays o (a_number a) (truth_value t) c p x f h = absurd h
kind_stays o (words xs) (a_number b) c p x f h = absurd h
kind_stays o (words xs) (truth_value t) c p x f h = absurd h
kind_stays o (truth_value t) (a_number b) c p x f h = absurd h
kind_stays o (truth_value t) (words ys) c p x f h = absurd h
kind_stays o (truth_value t) (truth_value u) c p x f h = absurd h

-- ---- bits

-- past the width there are none
pub high_unset : (o : Object) (z x : Value) (k b : ℕ) → Alike o z x → object_width o ≤ b → value_bit x k b ≡ false
high_unset o (a_number a) (a_number x) zero b h l = unset_past (object_width o) x b h.2 l
high_unset o (a_number a) (a_number x) (suc k) b h l = refl
high_unset o (words xs) (words ys) k b h l = unset_past (object_width o) (slice_index ys k) b (h.4 k) l
high_unset o (a_number a) (words ys) k b h l = absurd h
high_unset o (a_number a) (truth_value t) k b h l = absurd h
high_unset o (words xs) (a_number x) k b h l = absurd h
high_unset o (words xs) (truth_value t) k b h l = absurd h
high_unset o (truth_value t) (a_number x) k b h l = absurd h
high_unset o (truth_value t) (words ys) k b h l = absurd h
high_unset o (truth_value t) (truth_value u) k b h l = absurd h

-- the place has this bit
abbrev pub covers : Cell → Bits → ℕ → ℕ → Bool
covers variable_cell p k b = is_within p b
covers (word_cell j) p k b = (j == k) && is_within p b
covers no_cell p k b = false

-- the bit of one word that may be written
word_kept : (w : ℕ) (xs : List ℕ) (j k b : ℕ) (p : Bits) (x : ℕ) → Narrow w xs → b < w → ((j == k) && is_within p b) ≡ false
    → is_set (slice_index (slice_set xs j (with_bits w (slice_index xs j) p x)) k) b ≡ is_set (slice_index xs k) b
word_kept w xs j k b p x h l c = by_place (cases_eq k j) (cases_lt j (length xs))
  where
    inside : k ≡ j → is_within p b ≡ false
    inside e = by_cases (and_cases (j == k) (is_within p b) c)
      where
        by_cases : ((j == k) ≡ false) ⊎ (is_within p b ≡ false) → is_within p b ≡ false
        by_cases (inl n) = absurd (eqb-false j k n (sym e))
        by_cases (inr i) = i

    by_place : (k ≡ j) ⊎ (k ≡ j → ⊥) → (j < length xs) ⊎ (length xs ≤ j)
        → is_set (slice_index (slice_set xs j (with_bits w (slice_index xs j) p x)) k) b ≡ is_set (slice_index xs k) b
    by_place e (inr past) = ap (λ l2. is_set (slice_index l2 k) b) (set_past xs j (with_bits w (slice_index xs j) p x) past)
    by_place (inr n) (inl within) = ap (λ z. is_set z b) (get_or-set_other xs j k (with_bits w (slice_index xs j) p x) 0 n)
    by_place (inl e) (inl within) =
        ap (λ i. is_set (slice_index (slice_set xs j (with_bits w (slice_index xs j) p x)) i) b) e
        ∙ ap (λ z. is_set z b) (get_or-set_same xs j (with_bits w (slice_index xs j) p x) 0 within)
        ∙ set_kept w (slice_index xs j) x b p l (inside e) ∙ ap (λ i. is_set (slice_index xs i) b) (sym e)

-- A bit that the place has not stays.
pub bit_stays : (o : Object) (z old : Value) (c : Cell) (p : Bits) (x k b : ℕ) → Alike o z old → Alike o z (written_cell o old c p x) → b < object_width o
    → covers c p k b ≡ false → value_bit (written_cell o old c p x) k b ≡ value_bit old k b
bit_stays o (a_number a) (a_number y) variable_cell p x zero b h g l c = set_kept (object_width o) y x b p l c
bit_stays o (a_number a) (a_number y) variable_cell p x (suc k) b h g l c = refl
bit_stays o (a_number a) (a_number y) (word_cell j) p x k b h g l c = absurd g
bit_stays o (a_number a) (a_number y) no_cell p x k b h g l c = refl
bit_stays o (words xs) (words ys) variable_cell p x k b h g l c = absurd g
bit_stays o (words xs) (words ys) (word_cell j) p x k b h g l c = word_kept (object_width o) ys j k b p x h.4 l c
bit_stays o (words xs) (words ys) no_cell p x k b h g l c = refl
bit_stays o (a_number a) (words ys) d p x k b h g l c = absurd h
bit_stays o (a_number a) (truth_value t) d p x k b h g l c = absurd h
bit_stays o (words xs) (a_number y) d p x k b h g l c = absurd h
bit_stays o (words xs) (truth_value t) d p x k b h g l c = absurd h
bit_stays o (truth_value t) (a_number y) d p x k b h g l c = absurd h
bit_stays o (truth_value t) (words ys) d p x k b h g l c = absurd h
bit_stays o (truth_value t) (truth_value u) d p x k b h g l c = absurd h

past_words : (xs : List ℕ) (k b : ℕ) → length xs ≤ k → is_set (slice_index xs k) b ≡ is_set 0 b
past_words xs k b h = ap (λ z. is_set z b) (get_or_past xs k 0 h)

words_given : (w : ℕ) (xs ys : List ℕ) (j k b : ℕ) (p : Bits) (x y : ℕ) → length xs ≡ length ys → b < w → IsTrue ((j == k) && is_within p b)
    → is_set x (offset p.low b) ≡ is_set y (offset p.low b)
    → is_set (slice_index (slice_set xs j (with_bits w (slice_index xs j) p x)) k) b ≡ is_set (slice_index (slice_set ys j (with_bits w (slice_index ys j) p y)) k) b
words_given w xs ys j k b p x y e l c s = by_place (cases_lt j (length xs))
  where
    given : (zs : List ℕ) (z : ℕ) → j < length zs
        → is_set (slice_index (slice_set zs j (with_bits w (slice_index zs j) p z)) j) b ≡ is_set z (offset p.low b)
    given zs z h =
        ap (λ m. is_set m b) (get_or-set_same zs j (with_bits w (slice_index zs j) p z) 0 h)
        ∙ set_written w (slice_index zs j) z b p l (and_parts (j == k) (is_within p b) c).1

    dropped : (zs : List ℕ) (z : ℕ) → length zs ≤ j → is_set (slice_index (slice_set zs j (with_bits w (slice_index zs j) p z)) j) b ≡ is_set 0 b
    dropped zs z h =
        ap (λ l2. is_set (slice_index l2 j) b) (set_past zs j (with_bits w (slice_index zs j) p z) h) ∙ past_words zs j b h

    at_word : is_set (slice_index (slice_set xs j (with_bits w (slice_index xs j) p x)) j) b ≡ is_set (slice_index (slice_set ys j (with_bits w (slice_index ys j) p y)) j) b
        → is_set (slice_index (slice_set xs j (with_bits w (slice_index xs j) p x)) k) b ≡ is_set (slice_index (slice_set ys j (with_bits w (slice_index ys j) p y)) k) b
    at_word h =
        subst (λ i. is_set (slice_index (slice_set xs j (with_bits w (slice_index xs j) p x)) i) b ≡ is_set (slice_index (slice_set ys j (with_bits w (slice_index ys j) p y)) i) b)
        (eqb-true j k (and_parts (j == k) (is_within p b) c).0) h

    by_place : (j < length xs) ⊎ (length xs ≤ j)
        → is_set (slice_index (slice_set xs j (with_bits w (slice_index xs j) p x)) k) b ≡ is_set (slice_index (slice_set ys j (with_bits w (slice_index ys j) p y)) k) b
    by_place (inl h) = at_word (given xs x h ∙ s ∙ sym (given ys y (subst (λ n. j < n) e h)))
    by_place (inr h) = at_word (dropped xs x h ∙ sym (dropped ys y (subst (λ n. n ≤ j) e h)))

-- A bit that the place has is the same in both values, where the numbers have the same bit for it.
pub bit_given : (o : Object) (a d : Value) (c : Cell) (p : Bits) (x y k b : ℕ) → Alike o a d
    → Alike o a (written_cell o a c p x) → b < object_width o → IsTrue (covers c p k b) → is_set x (offset p.low b) ≡ is_set y (offset p.low b)
    → value_bit (written_cell o a c p x) k b ≡ value_bit (written_cell o d c p y) k b
bit_given o (a_number m) (a_number n) variable_cell p x y zero b h g l c s =
    set_written (object_width o) m x b p l c ∙ s ∙ sym (set_written (object_width o) n y b p l c)
bit_given o (a_number m) (a_number n) variable_cell p x y (suc k) b h g l c s = refl
bit_given o (a_number m) (a_number n) (word_cell j) p x y k b h g l c s = absurd g
bit_given o (a_number m) (a_number n) no_cell p x y k b h g l c s = absurd (false≢true c)
bit_given o (words xs) (words ys) variable_cell p x y k b h g l c s = absurd g
bit_given o (words xs) (words ys) (word_cell j) p x y k b h g l c s = words_given (object_width o) xs ys j k b p x y h.1 l c s
bit_given o (words xs) (words ys) no_cell p x y k b h g l c s = absurd (false≢true c)
bit_given o (a_number m) (words ys) e p x y k b h g l c s = absurd h
bit_given o (a_number m) (truth_value t) e p x y k b h g l c s = absurd h
bit_given o (words xs) (a_number n) e p x y k b h g l c s = absurd h
bit_given o (words xs) (truth_value t) e p x y k b h g l c s = absurd h
bit_given o (truth_value t) (a_number n) e p x y k b h g l c s = absurd h
bit_given o (truth_value t) (words ys) e p x y k b h g l c s = absurd h
bit_given o (truth_value t) (truth_value u) e p x y k b h g l c s = absurd h
