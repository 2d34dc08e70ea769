-- Each bit of a name with constant selects is the bit that stands there, in any context.
use Rattle.std.proofs.Common.{◌≡◌, ℕ, zero, suc, ◌+◌, ◌-◌, ◌^◌, ◌<◌, ◌≤◌, Bool, true, false, cond, ◌&&◌, nat_lt, ◌⊎◌, inl, inr, refl, sym, ap, ap₂, ◌∙◌, subst, Option, Some, None, ℤ, pos, negsuc, ◌+ℤ◌, slice_index, IsTrue, is_none, unwrap_or, option_and_then, arith, zero-add, lt-ltb, le-ltb}
use Rattle.std.proofs.lemmas.Bool.{cases_lt, and_parts, cond-true, cond-false, false≢true}
use Rattle.std.proofs.lemmas.Int.{ints}
use Rattle.wb_values.specs.Value.{Name, Value, truth_value, number as a_number, words, as_number, as_words, Valuation}
use Rattle.wb_values.specs.Choice.{some_if}
use Rattle.wb_values.specs.Number.{top_bit}
use Rattle.verilog_trees.specs.Syntax.{Selects, whole, one, two}
use Rattle.verilog_meaning.specs.Expression.{Object, Scope, object_width, is_memory, bits_from, bits_taken, word_number, word_or_zero, indexed_word, whole_value, widened, no_values, selects_sign, selected, selects_width, select_index, select_bits}
use Rattle.verilog_meaning.specs.Statement.{cell_at, named_place}
use Rattle.verilog_meaning.specs.Register.{selects_are_constant, is_bit_of, is_set, value_bit}
use Rattle.verilog_rules.specs.Expression.{lacks_index}
use Rattle.verilog_designs.specs.Dependence.{Bit, word_of_cell, natural_in, bit_in, bit_at, widened_bit}
use Rattle.verilog_settled.specs.Locality.{HasNoConstantMemory}
use Rattle.verilog_settled.proofs.Bits.{set_from_bit, bit_of_part, bit_within_part}
use Rattle.verilog_settled.proofs.Values.{Alike, not_both}
use Rattle.verilog_settled.proofs.Constant.{fixed_selects}
use Rattle.verilog_settled.proofs.Names.{is_addressed}
use Rattle.verilog_settled.proofs.Copied.{cell_word, word_place, bits_place}
use Rattle.verilog_settled.proofs.Widened.{top_past, signed_bit, widened_low, top_is}

-- the bit at place j is that of the valuation, where one is named
abbrev pub Shows : Valuation → ℕ → ℕ → Option Bit → Type 0
Shows v x j o = (y : Bit) → o ≡ Some y → is_set x j ≡ value_bit (v y.of_name) y.word y.place

-- ---- values

number_shows : (o : Object) (x : Value) (b : ℕ) → Alike o x x → is_memory o ≡ false → is_set (as_number x) b ≡ value_bit x 0 b
number_shows o (a_number x) b h m = refl
number_shows o (words xs) b h m = absurd (false≢true (sym m ∙ h.0))
number_shows o (truth_value t) b h m = absurd h

word_shows : (o : Object) (x : Value) (k b : ℕ) → Alike o x x → is_memory o ≡ true → is_set (slice_index (as_words x) k) b ≡ value_bit x k b
word_shows o (words xs) k b h m = refl
word_shows o (a_number x) k b h m = absurd (not_both (is_memory o) h.0 m)
word_shows o (truth_value t) k b h m = absurd h

same_some : (a b : ℕ) → Some a ≡ Some b → a ≡ b
same_some a b e = cc

part_shows : (low : ℤ) (n x j b : ℕ) → j < n → natural_in (low +ℤ pos j) ≡ Some b → is_set (bits_from low n x) j ≡ is_set x b
part_shows (pos k) n x j b h e =
    set_from_bit (bits_from (pos k) n x) x j b (bit_of_part k n x j b h (sym (same_some (k + j) b e)))
part_shows (negsuc k) n x j b h e = by_place (cases_lt j (k + 1))
  where
    by_place : (j < k + 1) ⊎ (k + 1 ≤ j) → is_set (bits_from (negsuc k) n x) j ≡ is_set x b
    by_place (inl l) =
        let m : negsuc k +ℤ pos j ≡ negsuc (k - j) = omega (arith, ints, l) in
        let none : None ≡ Some b = sym (ap natural_in m) ∙ e in
        absurd (let f : None ≡ Some b = none in cc)
    by_place (inr l) =
        let m : negsuc k +ℤ pos j ≡ pos (j - (k + 1)) = omega (arith, ints, l) in
        let same : j - (k + 1) ≡ b = same_some (j - (k + 1)) b (sym (ap natural_in m) ∙ e) in
        set_from_bit (bits_from (negsuc k) n x) x j (j - (k + 1)) (bit_within_part k n x j h l) ∙ ap (is_set x) same

-- ---- a bit that is named

no_number : (c : Option ℕ) → is_none c ≡ true → c ≡ None
no_number None h = refl
no_number (Some c) h = absurd (false≢true h)

abbrev there : Name → ℕ → ℕ → Bit
there n k b = record { of_name = n; word = k; place = b }

-- none is named of a parameter
never_named : (o : Object) (n : Name) (c : ℕ) → o.constant ≡ Some c → (q r : Option ℕ) (y : Bit) → bit_in o n q r ≡ Some y → ⊥
never_named o n c h None r y e = let g : None ≡ Some y = e in cc
never_named o n c h (Some k) None y e = let g : None ≡ Some y = e in cc
never_named o n c h (Some k) (Some b) y e =
    let g : None ≡ Some y = sym (ap (λ t. some_if (is_none t && is_bit_of o k b) (there n k b)) h) ∙ e in
    cc

named_shows : (v : Valuation) (x j : ℕ) (o : Object) (n : Name) (q r : Option ℕ)
    → ((k b : ℕ) → q ≡ Some k → r ≡ Some b → o.constant ≡ None → is_set x j ≡ value_bit (v n) k b) → Shows v x j (bit_in o n q r)
named_shows v x j o n None r f y e = absurd (let g : None ≡ Some y = e in cc)
named_shows v x j o n (Some k) None f y e = absurd (let g : None ≡ Some y = e in cc)
named_shows v x j o n (Some k) (Some b) f y e = by_test (is_none o.constant && is_bit_of o k b) refl e
  where
    by_test : (t : Bool) → (is_none o.constant && is_bit_of o k b) ≡ t → some_if t (there n k b) ≡ Some y
        → is_set x j ≡ value_bit (v y.of_name) y.word y.place
    by_test false g h = absurd (let i : None ≡ Some y = h in cc)
    by_test true g h =
        let same : there n k b ≡ y = cc in
        subst (λ z. is_set x j ≡ value_bit (v z.of_name) z.word z.place) same
        (f k b refl refl (no_number o.constant (and_parts (is_none o.constant) (is_bit_of o k b) g).0))

-- ---- selects

-- what is no memory, or has an index
abbrev pub HasIndex : Scope → Name → Selects → Type 0
HasIndex s n x = (is_memory (s n) && lacks_index x) ≡ false

no_memory : (m : Bool) → (m && true) ≡ false → m ≡ false
no_memory true h = h
no_memory false h = refl

at_place : (s : Scope) (v : Valuation) (n : Name) (x : Selects) → Alike (s n) (v n) (v n) → HasIndex s n x → (j : ℕ) → j < selects_width s (s n) x
    → Shows v (selected s no_values (s n) (v n) x) j (bit_at s n x j)
at_place s v n whole al i j h =
    named_shows v (whole_value (s n) (v n)) j (s n) n (Some 0) (Some (0 + j))
    (λ k b e g c. ap (λ q. is_set (unwrap_or q (as_number (v n))) j) c ∙ number_shows (s n) (v n) j al (no_memory (is_memory (s n)) i)
    ∙ ap₂ (value_bit (v n)) (same_some 0 k e) (sym (zero-add j) ∙ same_some (0 + j) b g))
at_place s v n (one x) al i j h =
    named_shows v (selected s no_values (s n) (v n) (one x)) j (s n) n (word_of_cell (cond (is_memory (s n)) (word_place s n x) (bits_place s n x)).cell)
    (natural_in ((cond (is_memory (s n)) (word_place s n x) (bits_place s n x)).bits.low +ℤ pos j))
    (by_kind (is_memory (s n)) refl)
  where
    by_kind : (m : Bool) → is_memory (s n) ≡ m → (k b : ℕ) → word_of_cell (cond m (word_place s n x) (bits_place s n x)).cell ≡ Some k
        → natural_in ((cond m (word_place s n x) (bits_place s n x)).bits.low +ℤ pos j) ≡ Some b → (s n).constant ≡ None
        → is_set (cond m (indexed_word (s n) (select_index s no_values x) (v n)) (bits_taken (whole_value (s n) (v n)) (select_bits s no_values (s n) x))) j
        ≡ value_bit (v n) k b
    by_kind true m k b e g c =
        ap (λ q. is_set (word_or_zero q (v n)) j)
        (sym (cell_word (option_and_then (λ r. word_number r (select_index s no_values x)) (s n).addresses)) ∙ e)
        ∙ word_shows (s n) (v n) k j al m ∙ ap (value_bit (v n) k) (sym (zero-add j) ∙ same_some (0 + j) b g)
    by_kind false m k b e g c =
        ap (λ q. is_set (bits_taken (unwrap_or q (as_number (v n))) (select_bits s no_values (s n) x)) j) c
        ∙ part_shows (select_bits s no_values (s n) x).low (select_bits s no_values (s n) x).count (as_number (v n)) j b
        (subst (λ t. j < cond t (object_width (s n)) (select_bits s no_values (s n) x).count) m h) g
        ∙ number_shows (s n) (v n) b al m ∙ ap (λ l. value_bit (v n) l b) (same_some 0 k e)
at_place s v n (two x z) al i j h =
    named_shows v (selected s no_values (s n) (v n) (two x z)) j (s n) n
    (word_of_cell (cell_at (option_and_then (λ r. word_number r (select_index s no_values x)) (s n).addresses)))
    (natural_in ((select_bits s no_values (s n) z).low +ℤ pos j))
    (λ k b e g c.
    let q : option_and_then (λ r. word_number r (select_index s no_values x)) (s n).addresses ≡ Some k =
    sym (cell_word (option_and_then (λ r. word_number r (select_index s no_values x)) (s n).addresses)) ∙ e in
    ap (λ o. is_set (bits_taken (word_or_zero o (v n)) (select_bits s no_values (s n) z)) j) q
    ∙ part_shows (select_bits s no_values (s n) z).low (select_bits s no_values (s n) z).count (slice_index (as_words (v n)) k) j b h g
    ∙ word_shows (s n) (v n) k b al (is_addressed (s n).addresses (select_index s no_values x) k q))

name_shows : (s : Scope) (v : Valuation) → HasNoConstantMemory s → (n : Name) (x : Selects) → ((s n).constant ≡ None → Alike (s n) (v n) (v n))
    → IsTrue (selects_are_constant s x) → HasIndex s n x → (j : ℕ) → j < selects_width s (s n) x
    → Shows v (selected s v (s n) (v n) x) j (bit_at s n x j)
name_shows s v p n x al k i j h y e = by_constant (s n).constant refl
  where
    by_constant : (c : Option ℕ) → (s n).constant ≡ c → is_set (selected s v (s n) (v n) x) j ≡ value_bit (v y.of_name) y.word y.place
    by_constant None c = ap (λ z. is_set z j) (fixed_selects s v p (s n) (v n) x k) ∙ at_place s v n x (al c) i j h y e
    by_constant (Some m) c = absurd (never_named (s n) n m c (word_of_cell (named_place s no_values n x).cell)
        (natural_in ((named_place s no_values n x).bits.low +ℤ pos j)) y e)

-- ---- in a context

some_sign : (s : Scope) (o : Object) (x : Selects) → selects_sign o x ≡ true → 0 < selects_width s o x
some_sign s o whole h = omega arith
some_sign s o (one x) h =
    let m : is_memory o ≡ true = (and_parts (is_memory o) o.signed h).0 in
    subst (λ t. 0 < cond t (object_width o) (select_bits s no_values o x).count) (sym m) (omega arith)
some_sign s o (two x y) h = absurd (false≢true h)

signed_shows : (from to x j : ℕ) → 0 < from → from ≤ to → from ≤ j → j < to → x < 2 ^ from → is_set (widened true from to x) j ≡ is_set x (from - 1)
signed_shows zero to x j z h g l p = absurd (omega (arith, z))
signed_shows (suc w) to x j z h g l p =
    let k : suc w - 1 ≡ w = omega arith in
    signed_bit (suc w) to x j h g p ∙ top_past (top_bit (suc w) x) (to - suc w) (j - suc w) (omega (arith, h, g, l)) ∙ top_is w x p ∙ ap (is_set x) (sym k)

-- Each bit of the name in a context of its own sign is that of the valuation.
pub widened_shows : (s : Scope) (v : Valuation) → HasNoConstantMemory s → (n : Name) (x : Selects) → ((s n).constant ≡ None → Alike (s n) (v n) (v n))
    → IsTrue (selects_are_constant s x) → HasIndex s n x → selected s v (s n) (v n) x < 2 ^ selects_width s (s n) x
    → (width j : ℕ) → selects_width s (s n) x ≤ width → j < width
    → Shows v (widened (selects_sign (s n) x) (selects_width s (s n) x) width (selected s v (s n) (v n) x)) j (widened_bit s (selects_sign (s n) x) n x j)
widened_shows s v p n x al k i fits width j l inside y e = by_place (cases_lt j (selects_width s (s n) x))
  where
    high : selects_width s (s n) x ≤ j → (t : Bool) → selects_sign (s n) x ≡ t → cond t (bit_at s n x (selects_width s (s n) x - 1)) None ≡ Some y
        → is_set (widened t (selects_width s (s n) x) width (selected s v (s n) (v n) x)) j ≡ value_bit (v y.of_name) y.word y.place
    high h false t g = absurd (let m : None ≡ Some y = g in cc)
    high h true t g =
        let some : 0 < selects_width s (s n) x = some_sign s (s n) x t in
        signed_shows (selects_width s (s n) x) width (selected s v (s n) (v n) x) j some l h inside fits
        ∙ name_shows s v p n x al k i (selects_width s (s n) x - 1) (omega (arith, some)) y g

    by_place : (j < selects_width s (s n) x) ⊎ (selects_width s (s n) x ≤ j)
        → is_set (widened (selects_sign (s n) x) (selects_width s (s n) x) width (selected s v (s n) (v n) x)) j ≡ value_bit (v y.of_name) y.word y.place
    by_place (inl h) =
        widened_low (selects_sign (s n) x) (selects_width s (s n) x) width (selected s v (s n) (v n) x) j l h
        ∙ name_shows s v p n x al k i j h y
        (sym (cond-true (nat_lt j (selects_width s (s n) x)) (bit_at s n x j) (cond (selects_sign (s n) x) (bit_at s n x (selects_width s (s n) x - 1)) None)
        (lt-ltb j (selects_width s (s n) x) h)) ∙ e)
    by_place (inr h) =
        high h (selects_sign (s n) x) refl
        (sym (cond-false (nat_lt j (selects_width s (s n) x)) (bit_at s n x j) (cond (selects_sign (s n) x) (bit_at s n x (selects_width s (s n) x - 1)) None)
        (le-ltb j (selects_width s (s n) x) h)) ∙ e)
