-- Each bit of a name with constant selects is the same, or the valuations differ at the bit that stands there.
use Rattle.std.proofs.Common.{◌≡◌, ◌≢◌, ℕ, ◌-◌, ◌^◌, ◌<◌, ◌≤◌, Bool, true, false, cond, nat_lt, ◌⊎◌, inl, inr, refl, sym, ap, ap₂, ◌∙◌, subst, Option, Some, None, pos, ◌+ℤ◌, slice_index, IsTrue, is_some, is_none, unwrap_or, option_and_then, arith, zero-add, lt-ltb, le-ltb}
use Rattle.std.proofs.lemmas.Bool.{cases_lt, and_from, cond-true, cond-false}
use Rattle.wb_values.specs.Value.{Name, Value, as_number, as_words, Valuation}
use Rattle.wb_values.specs.Choice.{some_if}
use Rattle.verilog_trees.specs.Syntax.{Select, Selects, whole, one, two}
use Rattle.verilog_meaning.specs.Expression.{Scope, object_width, is_memory, bits_taken, word_number, word_or_zero, indexed_word, whole_value, widened, no_values, selected, selects_width, select_index, select_bits}
use Rattle.verilog_meaning.specs.Statement.{variable_cell, Place, cell_at, indexed_cell, all_bits, named_place}
use Rattle.verilog_meaning.specs.Register.{selects_are_constant, is_bit_of, is_set, value_bit}
use Rattle.verilog_designs.specs.Dependence.{Bit, word_of_cell, natural_in, bit_in, bit_at, widened_bit}
use Rattle.verilog_settled.specs.Locality.{HasNoConstantMemory}
use Rattle.verilog_settled.proofs.Bits.{alike_or_not}
use Rattle.verilog_settled.proofs.Values.{Alike, alike_turned, part_bit, numbers_below, words_below, number_bit, word_bit}
use Rattle.verilog_settled.proofs.Constant.{same_selected, fixed_selects}
use Rattle.verilog_settled.proofs.Found.{Found}
use Rattle.verilog_settled.proofs.Names.{IsReadable, in_range, some_word, word_within}
use Rattle.verilog_settled.proofs.Fitting.{selected_fits}
use Rattle.verilog_settled.proofs.Widened.{widened_low, widened_high, widened_signed}

-- a bit of two numbers is the same, or the values have other bits at the place that is copied
abbrev BitOr : ℕ → ℕ → ℕ → (a b : Value) → (Bit → Type 0) → Name → Type 0
BitOr x y j a b IsSo n =
    (is_set x j ≡ is_set y j)
    ⊎ ((k : ℕ) × (c : ℕ) × IsSo (record { of_name = n; word = k; place = c }) × (value_bit a k c ≢ value_bit b k c))

settled : (x y x2 y2 j : ℕ) (a b : Value) (IsSo : Bit → Type 0) (n : Name) → x ≡ x2 → y ≡ y2
    → (is_set x2 j ≢ is_set y2 j → (k : ℕ) × (c : ℕ) × IsSo (record { of_name = n; word = k; place = c }) × (value_bit a k c ≢ value_bit b k c))
    → BitOr x y j a b IsSo n
settled x y x2 y2 j a b IsSo n e g found = by_bits (alike_or_not (is_set x2 j) (is_set y2 j))
  where
    by_bits : (is_set x2 j ≡ is_set y2 j) ⊎ (is_set x2 j ≢ is_set y2 j) → BitOr x y j a b IsSo n
    by_bits (inl h) = inl (ap (λ z. is_set z j) e ∙ h ∙ sym (ap (λ z. is_set z j) g))
    by_bits (inr d) = inr (found d)

-- the bit that stands at place j
copied_there : (s : Scope) (n : Name) (x : Selects) (j k b : ℕ) → (s n).constant ≡ None → is_bit_of (s n) k b ≡ true
    → word_of_cell (named_place s no_values n x).cell ≡ Some k → natural_in ((named_place s no_values n x).bits.low +ℤ pos j) ≡ Some b
    → bit_at s n x j ≡ Some (record { of_name = n; word = k; place = b })
copied_there s n x j k b c r e g =
    ap₂ (λ p q. bit_in (s n) n p q) e g
    ∙ ap (λ t. some_if t (there k b)) (and_from (is_none (s n).constant) (is_bit_of (s n) k b) (ap is_none c) r)
  where
    there : ℕ → ℕ → Bit
    there i l = record { of_name = n; word = i; place = l }

pub cell_word : (q : Option ℕ) → word_of_cell (cell_at q) ≡ q
cell_word None = refl
cell_word (Some k) = refl

-- what a single select means: a word of a memory, or bits of what is none
abbrev pub word_place : Scope → Name → Select → Place
word_place s n i = record { of_name = n; cell = indexed_cell (s n) (select_index s no_values i); bits = all_bits (s n) }

abbrev pub bits_place : Scope → Name → Select → Place
bits_place s n i = record { of_name = n; cell = variable_cell; bits = select_bits s no_values (s n) i }

abbrev IsAt : Scope → Name → Selects → ℕ → Bit → Type 0
IsAt s n x j y = bit_at s n x j ≡ Some y

whole_bit : (s : Scope) (n : Name) (a b : Value) (j : ℕ) → (s n).constant ≡ None → Alike (s n) a b → j < object_width (s n)
    → BitOr (selected s no_values (s n) a whole) (selected s no_values (s n) b whole) j a b (IsAt s n whole j) n
whole_bit s n a b j c al h =
    settled (whole_value (s n) a) (whole_value (s n) b) (as_number a) (as_number b) j a b (IsAt s n whole j) n
    (ap (λ q. unwrap_or q (as_number a)) c) (ap (λ q. unwrap_or q (as_number b)) c)
    (λ d. (
      0,
      j,
      copied_there s n whole j 0 j c (in_range (s n) 0 j (some_word (s n).addresses) h) refl (ap (λ i. Some i) (zero-add j)),
      number_bit (s n) a b j al d,
    ))

one_bit : (s : Scope) (n : Name) (i : Select) (a b : Value) (j : ℕ) → (s n).constant ≡ None → Alike (s n) a b
    → j < selects_width s (s n) (one i)
    → BitOr (selected s no_values (s n) a (one i)) (selected s no_values (s n) b (one i)) j a b (IsAt s n (one i) j) n
one_bit s n i a b j c al h = by_kind (is_memory (s n)) refl
  where
    word_there : (z : Value) (q : Option ℕ) → is_memory (s n) ≡ true → option_and_then (λ r. word_number r (select_index s no_values i)) (s n).addresses ≡ q
        → selected s no_values (s n) z (one i) ≡ word_or_zero q z
    word_there z q m e =
        cond-true (is_memory (s n)) (indexed_word (s n) (select_index s no_values i) z) (bits_taken (whole_value (s n) z) (select_bits s no_values (s n) i)) m
        ∙ ap (λ p. word_or_zero p z) e

    bits_there : (z : Value) → is_memory (s n) ≡ false
        → selected s no_values (s n) z (one i) ≡ bits_taken (as_number z) (select_bits s no_values (s n) i)
    bits_there z m =
        cond-false (is_memory (s n)) (indexed_word (s n) (select_index s no_values i) z) (bits_taken (whole_value (s n) z) (select_bits s no_values (s n) i)) m
        ∙ ap (λ q. bits_taken (unwrap_or q (as_number z)) (select_bits s no_values (s n) i)) c

    by_word : (q : Option ℕ) → is_memory (s n) ≡ true → option_and_then (λ r. word_number r (select_index s no_values i)) (s n).addresses ≡ q
        → BitOr (selected s no_values (s n) a (one i)) (selected s no_values (s n) b (one i)) j a b (IsAt s n (one i) j) n
    by_word None m e = inl (ap (λ z. is_set z j) (word_there a None m e ∙ sym (word_there b None m e)))
    by_word (Some k) m e =
        let l : j < object_width (s n) = subst (λ t. j < cond t (object_width (s n)) (select_bits s no_values (s n) i).count) m h in
        settled (selected s no_values (s n) a (one i)) (selected s no_values (s n) b (one i)) (slice_index (as_words a) k) (slice_index (as_words b) k) j a b
        (IsAt s n (one i) j) n (word_there a (Some k) m e) (word_there b (Some k) m e)
        (λ d. (
          k,
          j,
          copied_there s n (one i) j k j c (in_range (s n) k j (word_within (s n).addresses (select_index s no_values i) k e) l)
              (ap (λ t. word_of_cell (cond t (word_place s n i) (bits_place s n i)).cell) m
              ∙ cell_word (option_and_then (λ r. word_number r (select_index s no_values i)) (s n).addresses) ∙ e)
              (ap (λ t. natural_in ((cond t (word_place s n i) (bits_place s n i)).bits.low +ℤ pos j)) m ∙ ap (λ o. Some o) (zero-add j)),
          word_bit (s n) a b k j al d,
        ))

    at_bits : is_memory (s n) ≡ false
        → BitOr (selected s no_values (s n) a (one i)) (selected s no_values (s n) b (one i)) j a b (IsAt s n (one i) j) n
    at_bits m =
        let l : j < (select_bits s no_values (s n) i).count = subst (λ t. j < cond t (object_width (s n)) (select_bits s no_values (s n) i).count) m h in
        settled (selected s no_values (s n) a (one i)) (selected s no_values (s n) b (one i)) (bits_taken (as_number a) (select_bits s no_values (s n) i))
        (bits_taken (as_number b) (select_bits s no_values (s n) i)) j a b (IsAt s n (one i) j) n (bits_there a m) (bits_there b m)
        (λ d. found m (part_bit (object_width (s n)) (select_bits s no_values (s n) i).low (select_bits s no_values (s n) i).count (as_number a) (as_number b) j
        (numbers_below (s n) a b al) (numbers_below (s n) b a (alike_turned (s n) a b al)) l d))
      where
        found : is_memory (s n) ≡ false
            → (e : ℕ) × ((select_bits s no_values (s n) i).low +ℤ pos j ≡ pos e) × (e < object_width (s n)) × (is_set (as_number a) e ≢ is_set (as_number b) e)
            → (k : ℕ) × (e : ℕ) × IsAt s n (one i) j (record { of_name = n; word = k; place = e }) × (value_bit a k e ≢ value_bit b k e)
        found m2 f = (
          0,
          f.0,
          copied_there s n (one i) j 0 f.0 c (in_range (s n) 0 f.0 (some_word (s n).addresses) f.2)
              (ap (λ t. word_of_cell (cond t (word_place s n i) (bits_place s n i)).cell) m2)
              (ap (λ t. natural_in ((cond t (word_place s n i) (bits_place s n i)).bits.low +ℤ pos j)) m2 ∙ ap natural_in f.1),
          number_bit (s n) a b f.0 al f.3,
        )

    by_kind : (m : Bool) → is_memory (s n) ≡ m
        → BitOr (selected s no_values (s n) a (one i)) (selected s no_values (s n) b (one i)) j a b (IsAt s n (one i) j) n
    by_kind true m = by_word (option_and_then (λ r. word_number r (select_index s no_values i)) (s n).addresses) m refl
    by_kind false m = at_bits m

two_bit : (s : Scope) (n : Name) (i x : Select) (a b : Value) (j : ℕ) → (s n).constant ≡ None → Alike (s n) a b
    → j < selects_width s (s n) (two i x)
    → BitOr (selected s no_values (s n) a (two i x)) (selected s no_values (s n) b (two i x)) j a b (IsAt s n (two i x) j) n
two_bit s n i x a b j c al h = by_word (option_and_then (λ r. word_number r (select_index s no_values i)) (s n).addresses) refl
  where
    there : (z : Value) (q : Option ℕ) → option_and_then (λ r. word_number r (select_index s no_values i)) (s n).addresses ≡ q
        → selected s no_values (s n) z (two i x) ≡ bits_taken (word_or_zero q z) (select_bits s no_values (s n) x)
    there z q e = ap (λ p. bits_taken (word_or_zero p z) (select_bits s no_values (s n) x)) e

    found : (k : ℕ) → option_and_then (λ r. word_number r (select_index s no_values i)) (s n).addresses ≡ Some k
        → (e : ℕ) × ((select_bits s no_values (s n) x).low +ℤ pos j ≡ pos e) × (e < object_width (s n))
        × (is_set (slice_index (as_words a) k) e ≢ is_set (slice_index (as_words b) k) e)
        → (l : ℕ) × (e : ℕ) × IsAt s n (two i x) j (record { of_name = n; word = l; place = e }) × (value_bit a l e ≢ value_bit b l e)
    found k e f = (
      k,
      f.0,
      copied_there s n (two i x) j k f.0 c (in_range (s n) k f.0 (word_within (s n).addresses (select_index s no_values i) k e) f.2)
          (cell_word (option_and_then (λ r. word_number r (select_index s no_values i)) (s n).addresses) ∙ e) (ap natural_in f.1),
      word_bit (s n) a b k f.0 al f.3,
    )

    by_word : (q : Option ℕ) → option_and_then (λ r. word_number r (select_index s no_values i)) (s n).addresses ≡ q
        → BitOr (selected s no_values (s n) a (two i x)) (selected s no_values (s n) b (two i x)) j a b (IsAt s n (two i x) j) n
    by_word None e = inl (ap (λ z. is_set z j) (there a None e ∙ sym (there b None e)))
    by_word (Some k) e =
        settled (selected s no_values (s n) a (two i x)) (selected s no_values (s n) b (two i x))
        (bits_taken (slice_index (as_words a) k) (select_bits s no_values (s n) x)) (bits_taken (slice_index (as_words b) k) (select_bits s no_values (s n) x)) j a b
        (IsAt s n (two i x) j) n (there a (Some k) e) (there b (Some k) e)
        (λ d. found k e (part_bit (object_width (s n)) (select_bits s no_values (s n) x).low (select_bits s no_values (s n) x).count
        (slice_index (as_words a) k) (slice_index (as_words b) k) j (words_below (s n) a b k al) (words_below (s n) b a k (alike_turned (s n) a b al)) h d))

value_bits : (s : Scope) (n : Name) (x : Selects) (a b : Value) (j : ℕ) → (s n).constant ≡ None → Alike (s n) a b → j < selects_width s (s n) x
    → BitOr (selected s no_values (s n) a x) (selected s no_values (s n) b x) j a b (IsAt s n x j) n
value_bits s n whole a b j c al h = whole_bit s n a b j c al h
value_bits s n (one i) a b j c al h = one_bit s n i a b j c al h
value_bits s n (two i x) a b j c al h = two_bit s n i x a b j c al h

-- ---- in a wider context

abbrev pub SetOr : ℕ → ℕ → ℕ → Valuation → Valuation → (Name → Type 0) → (Bit → Type 0) → Type 0
SetOr x y j v w HasValue IsSo = (is_set x j ≡ is_set y j) ⊎ Found v w HasValue IsSo

-- a bit of the name by itself
name_bits : (s : Scope) (v w : Valuation) (HasValue : Name → Type 0) (n : Name) (x : Selects) → HasNoConstantMemory s → IsReadable s v w HasValue n
    → IsTrue (selects_are_constant s x) → (j : ℕ) → j < selects_width s (s n) x
    → SetOr (selected s v (s n) (v n) x) (selected s w (s n) (w n) x) j v w HasValue (IsAt s n x j)
name_bits s v w HasValue n x p r k j h = by_constant (s n).constant refl
  where
    told : (s n).constant ≡ None → BitOr (selected s no_values (s n) (v n) x) (selected s no_values (s n) (w n) x) j (v n) (w n) (IsAt s n x j) n
        → SetOr (selected s v (s n) (v n) x) (selected s w (s n) (w n) x) j v w HasValue (IsAt s n x j)
    told c (inl e) =
        inl (ap (λ z. is_set z j) (fixed_selects s v p (s n) (v n) x k) ∙ e ∙ sym (ap (λ z. is_set z j) (fixed_selects s w p (s n) (w n) x k)))
    told c (inr f) =
        inr (record { bit = record { of_name = n; word = f.0; place = f.1 }; is_so = f.2; has_value = r.has_value c; differs = f.3 })

    by_constant : (c : Option ℕ) → (s n).constant ≡ c
        → SetOr (selected s v (s n) (v n) x) (selected s w (s n) (w n) x) j v w HasValue (IsAt s n x j)
    by_constant (Some c) e = inl (ap (λ z. is_set z j) (same_selected s v w p n x (ap is_some e) k))
    by_constant None e = told e (value_bits s n x (v n) (w n) j e (r.alike e) h)

both_zero : (w x y : ℕ) → w ≤ 0 → x < 2 ^ w → y < 2 ^ w → x ≡ y
both_zero w x y h p q =
    let e : w ≡ 0 = omega (arith, h) in
    let f : x < 2 ^ 0 = subst (λ k. x < 2 ^ k) e p in
    let g : y < 2 ^ 0 = subst (λ k. y < 2 ^ k) e q in
    omega (arith, f, g)

pub name_copied : (s : Scope) (v w : Valuation) (HasValue : Name → Type 0) (n : Name) (x : Selects) → HasNoConstantMemory s → IsReadable s v w HasValue n
    → IsReadable s w v HasValue n → IsTrue (selects_are_constant s x) → (signed : Bool) (width j : ℕ) → selects_width s (s n) x ≤ width
    → SetOr (widened signed (selects_width s (s n) x) width (selected s v (s n) (v n) x)) (widened signed (selects_width s (s n) x) width (selected s w (s n) (w n) x)) j
    v w HasValue (λ y. widened_bit s signed n x j ≡ Some y)
name_copied s v w HasValue n x p r t k signed width j l = by_place (cases_lt j (selects_width s (s n) x))
  where
    low : j < selects_width s (s n) x → SetOr (selected s v (s n) (v n) x) (selected s w (s n) (w n) x) j v w HasValue (IsAt s n x j)
        → SetOr (widened signed (selects_width s (s n) x) width (selected s v (s n) (v n) x)) (widened signed (selects_width s (s n) x) width (selected s w (s n) (w n) x)) j
        v w HasValue (λ y. widened_bit s signed n x j ≡ Some y)
    low h (inl e) =
        inl (widened_low signed (selects_width s (s n) x) width (selected s v (s n) (v n) x) j l h ∙ e
        ∙ sym (widened_low signed (selects_width s (s n) x) width (selected s w (s n) (w n) x) j l h))
    low h (inr f) =
        inr (record {
          bit = f.bit;
          is_so =
              cond-true (nat_lt j (selects_width s (s n) x)) (bit_at s n x j) (cond signed (bit_at s n x (selects_width s (s n) x - 1)) None)
              (lt-ltb j (selects_width s (s n) x) h) ∙ f.is_so;
          has_value = f.has_value;
          differs = f.differs;
        })

    top : selects_width s (s n) x ≤ j
        → SetOr (selected s v (s n) (v n) x) (selected s w (s n) (w n) x) (selects_width s (s n) x - 1) v w HasValue (IsAt s n x (selects_width s (s n) x - 1))
        → SetOr (widened true (selects_width s (s n) x) width (selected s v (s n) (v n) x)) (widened true (selects_width s (s n) x) width (selected s w (s n) (w n) x)) j
        v w HasValue (λ y. widened_bit s true n x j ≡ Some y)
    top h (inl e) =
        inl (widened_signed (selects_width s (s n) x) width (selected s v (s n) (v n) x) (selected s w (s n) (w n) x) j l h
        (selected_fits s v w HasValue p n x r) (selected_fits s w v HasValue p n x t) e)
    top h (inr f) =
        inr (record {
          bit = f.bit;
          is_so =
              cond-false (nat_lt j (selects_width s (s n) x)) (bit_at s n x j) (bit_at s n x (selects_width s (s n) x - 1))
              (le-ltb j (selects_width s (s n) x) h) ∙ f.is_so;
          has_value = f.has_value;
          differs = f.differs;
        })

    -- without bits both numbers are 0
    none : selects_width s (s n) x ≤ 0 → selected s v (s n) (v n) x ≡ selected s w (s n) (w n) x
    none h = both_zero (selects_width s (s n) x) (selected s v (s n) (v n) x) (selected s w (s n) (w n) x) h (selected_fits s v w HasValue p n x r) (selected_fits s w v HasValue p n x t)

    high : selects_width s (s n) x ≤ j → (b : Bool)
        → SetOr (widened b (selects_width s (s n) x) width (selected s v (s n) (v n) x)) (widened b (selects_width s (s n) x) width (selected s w (s n) (w n) x)) j
        v w HasValue (λ y. widened_bit s b n x j ≡ Some y)
    high h false =
        inl (widened_high (selects_width s (s n) x) width (selected s v (s n) (v n) x) (selected s w (s n) (w n) x) j l h
        (selected_fits s v w HasValue p n x r) (selected_fits s w v HasValue p n x t))
    high h true =
        elim (cases_lt 0 (selects_width s (s n) x)) [
          | inl g ↦ top h (name_bits s v w HasValue n x p r k (selects_width s (s n) x - 1) (omega (arith, g)))
          | inr g ↦ inl (ap (λ z. is_set (widened true (selects_width s (s n) x) width z) j) (none g))
        ]

    by_place : (j < selects_width s (s n) x) ⊎ (selects_width s (s n) x ≤ j)
        → SetOr (widened signed (selects_width s (s n) x) width (selected s v (s n) (v n) x)) (widened signed (selects_width s (s n) x) width (selected s w (s n) (w n) x)) j
        v w HasValue (λ y. widened_bit s signed n x j ≡ Some y)
    by_place (inl h) = low h (name_bits s v w HasValue n x p r k j h)
    by_place (inr h) = high h signed
