-- What a name with selects reads of a valuation.
use Rattle.std.proofs.Common.{◌≡◌, ◌≢◌, ℕ, ◌+◌, ◌-◌, ◌^◌, ◌<◌, ◌≤◌, Bool, true, false, cond, ◌&&◌, nat_le, nat_lt, ◌⊎◌, inl, inr, refl, sym, ap, ◌∙◌, subst, Option, Some, None, min, max, ℤ, pos, negsuc, slice_index, IsTrue, is_some, is_none, unwrap_or, option_and_then, arith, eq-eqb, lt-ltb}
use Rattle.std.proofs.lemmas.Bool.{and_from, false≢true}
use Rattle.std.proofs.lemmas.Bool.Decides.{nat_tests}
use Rattle.std.proofs.lemmas.Slice.Eq.{bytes_eq-Decides}
use Rattle.wb_values.specs.Value.{Name, same_name, as_number, as_words, Valuation}
use Rattle.verilog_trees.specs.Syntax.{name, Select, Selects, whole, one, two}
use Rattle.verilog_meaning.specs.Expression.{Object, Scope, object_width, is_memory, distance, bits_taken, word_number, word_or_zero, indexed_word, whole_value, no_values, selected, select_index, select_bits}
use Rattle.verilog_meaning.specs.Register.{select_is_constant, selects_are_constant, is_within, may_mean_bit, is_word_number, may_mean_word, may_mean, words_between, word_count, is_bit_of, is_set}
use Rattle.verilog_designs.specs.Reads.{or_in, name_reads, reads, select_reads, selects_read}
use Rattle.verilog_settled.specs.Locality.{HasNoConstantMemory}
use Rattle.verilog_settled.proofs.Bits.{DifferBelow, one_or_differ}
use Rattle.verilog_settled.proofs.Values.{Alike, alike_turned, part_or_differ, numbers_below, words_below, number_bit, word_bit}
use Rattle.verilog_settled.proofs.Constant.{same_bits, same_index}
use Rattle.verilog_settled.proofs.Found.{SameOr, found_left, found_right, and_then}

-- What is known of a name that is read: its constant fits, or the valuations have values of its object.
pub record IsReadable (s : Scope) (v w : Valuation) (HasValue : Name → Type 0) (n : Name) : Type 0 where
  pub small : (c : ℕ) → (s n).constant ≡ Some c → c < 2 ^ object_width (s n)
  pub alike : (s n).constant ≡ None → Alike (s n) (v n) (w n)
  pub has_value : (s n).constant ≡ None → HasValue n

-- ---- the bits that a name reads

pub cond_true : (t u : Bool) → (t ≡ true → u ≡ true) → cond t u true ≡ true
cond_true true u h = h refl
cond_true false u h = refl

pub same_refl : (n : Name) → same_name n n ≡ true
same_refl n = (bytes_eq-Decides n n).1 refl

pub in_range : (o : Object) (k b : ℕ) → k < word_count o → b < object_width o → is_bit_of o k b ≡ true
in_range o k b h g = and_from (nat_lt k (word_count o)) (nat_lt b (object_width o)) (lt-ltb k (word_count o) h) (lt-ltb b (object_width o) g)

pub some_word : (a : Option (ℕ × ℕ)) → 0 < words_between a
some_word None = omega arith
some_word (Some a) = omega arith

name_read : (s : Scope) (n : Name) (x : Selects) (k b : ℕ) → (s n).constant ≡ None → is_bit_of (s n) k b ≡ true
    → (selects_are_constant s x ≡ true → may_mean s (s n) x k b ≡ true) → IsTrue (name_reads s n x n k b)
name_read s n x k b c r m =
    and_from (same_name n n)
    (is_none (s n).constant && (is_bit_of (s n) k b && cond (selects_are_constant s x) (may_mean s (s n) x k b) true)) (same_refl n)
    (and_from (is_none (s n).constant) (is_bit_of (s n) k b && cond (selects_are_constant s x) (may_mean s (s n) x k b) true) (ap is_none c)
    (and_from (is_bit_of (s n) k b) (cond (selects_are_constant s x) (may_mean s (s n) x k b) true) r
    (cond_true (selects_are_constant s x) (may_mean s (s n) x k b) m)))

pub means_bit : (s : Scope) (v : Valuation) (o : Object) (x : Select) (b : ℕ) → HasNoConstantMemory s → IsTrue (is_within (select_bits s v o x) b)
    → may_mean_bit s o x b ≡ true
means_bit s v o x b p h =
    cond_true (select_is_constant s x) (is_within (select_bits s no_values o x) b)
    (λ c. subst (λ z. is_within z b ≡ true) (same_bits s v no_values p o x c) h)

pub means_word : (s : Scope) (v : Valuation) (o : Object) (x : Select) (k : ℕ) → HasNoConstantMemory s
    → option_and_then (λ a. word_number a (select_index s v x)) o.addresses ≡ Some k → may_mean_word s o x k ≡ true
means_word s v o x k p h =
    cond_true (select_is_constant s x) (is_word_number (option_and_then (λ a. word_number a (select_index s no_values x)) o.addresses) k)
    (λ c. ap (λ i. is_word_number (option_and_then (λ a. word_number a i) o.addresses) k) (same_index s no_values v p x c)
    ∙ ap (λ q. is_word_number q k) h ∙ eq-eqb k k refl)

number_within : (a : ℕ × ℕ) (i : ℤ) (k : ℕ) → word_number a i ≡ Some k → k < distance a.0 a.1 + 1
number_within a (negsuc i) k h = absurd (let e : None ≡ Some k = h in cc)
number_within a (pos i) k h = by_test (nat_le (min a.0 a.1) i && nat_le i (max a.0 a.1)) refl h
  where
    by_test : (t : Bool) → (nat_le (min a.0 a.1) i && nat_le i (max a.0 a.1)) ≡ t → cond t (Some (i - min a.0 a.1)) None ≡ Some k
        → k < distance a.0 a.1 + 1
    by_test false e g = absurd (let f : None ≡ Some k = g in cc)
    by_test true e g =
        let same : i - min a.0 a.1 ≡ k = cc in
        let high : i ≤ max a.0 a.1 = grind (arith, nat_tests) in
        omega (arith, same, high)

pub word_within : (a : Option (ℕ × ℕ)) (i : ℤ) (k : ℕ) → option_and_then (λ r. word_number r i) a ≡ Some k → k < words_between a
word_within None i k h = absurd (let e : None ≡ Some k = h in cc)
word_within (Some a) i k h = number_within a i k h

pub is_addressed : (a : Option (ℕ × ℕ)) (i : ℤ) (k : ℕ) → option_and_then (λ r. word_number r i) a ≡ Some k → is_some a ≡ true
is_addressed None i k h = absurd (let e : None ≡ Some k = h in cc)
is_addressed (Some a) i k h = refl

-- a memory is no parameter
pub no_constant : (s : Scope) (n : Name) → HasNoConstantMemory s → is_memory (s n) ≡ true → (s n).constant ≡ None
no_constant s n p m = by_constant (s n).constant refl
  where
    by_constant : (c : Option ℕ) → (s n).constant ≡ c → c ≡ None
    by_constant None e = refl
    by_constant (Some c) e = absurd (false≢true (sym (p n (ap is_some e)) ∙ m))

-- ---- what is read

whole_read : (s : Scope) (v w : Valuation) (HasValue : Name → Type 0) (n : Name) → IsReadable s v w HasValue n
    → SameOr (whole_value (s n) (v n)) (whole_value (s n) (w n)) v w HasValue (name_reads s n whole)
whole_read s v w HasValue n r = by_constant (s n).constant refl
  where
    at_bit : (c : (s n).constant ≡ None) → (as_number (v n) ≡ as_number (w n)) ⊎ DifferBelow (object_width (s n)) (as_number (v n)) (as_number (w n))
        → SameOr (as_number (v n)) (as_number (w n)) v w HasValue (name_reads s n whole)
    at_bit c (inl e) = inl e
    at_bit c (inr d) =
        inr (record {
          bit = record { of_name = n; word = 0; place = d.0 };
          is_so = name_read s n whole 0 d.0 c (in_range (s n) 0 d.0 (some_word (s n).addresses) d.1) (λ h. refl);
          has_value = r.has_value c;
          differs = number_bit (s n) (v n) (w n) d.0 (r.alike c) d.2;
        })

    by_constant : (c : Option ℕ) → (s n).constant ≡ c
        → SameOr (unwrap_or c (as_number (v n))) (unwrap_or c (as_number (w n))) v w HasValue (name_reads s n whole)
    by_constant (Some c) e = inl refl
    by_constant None e =
        at_bit e (one_or_differ (object_width (s n)) (as_number (v n)) (as_number (w n)) (numbers_below (s n) (v n) (w n) (r.alike e))
        (numbers_below (s n) (w n) (v n) (alike_turned (s n) (v n) (w n) (r.alike e))))

-- bits of what is no memory
bits_read : (s : Scope) (v w : Valuation) (HasValue : Name → Type 0) (n : Name) (i : Select) → HasNoConstantMemory s
    → IsReadable s v w HasValue n → is_memory (s n) ≡ false
    → SameOr (bits_taken (whole_value (s n) (v n)) (select_bits s v (s n) i)) (bits_taken (whole_value (s n) (w n)) (select_bits s v (s n) i)) v w HasValue
    (name_reads s n (one i))
bits_read s v w HasValue n i p r m = by_constant (s n).constant refl
  where
    at_bit : (c : (s n).constant ≡ None)
        → (bits_taken (as_number (v n)) (select_bits s v (s n) i) ≡ bits_taken (as_number (w n)) (select_bits s v (s n) i))
        ⊎ ((b : ℕ) × (b < object_width (s n)) × IsTrue (is_within (select_bits s v (s n) i) b) × (is_set (as_number (v n)) b ≢ is_set (as_number (w n)) b))
        → SameOr (bits_taken (as_number (v n)) (select_bits s v (s n) i)) (bits_taken (as_number (w n)) (select_bits s v (s n) i)) v w HasValue
        (name_reads s n (one i))
    at_bit c (inl e) = inl e
    at_bit c (inr d) =
        inr (record {
          bit = record { of_name = n; word = 0; place = d.0 };
          is_so =
              name_read s n (one i) 0 d.0 c (in_range (s n) 0 d.0 (some_word (s n).addresses) d.1)
              (λ h. ap (λ t. cond t (may_mean_word s (s n) i 0) (may_mean_bit s (s n) i d.0)) m ∙ means_bit s v (s n) i d.0 p d.2);
          has_value = r.has_value c;
          differs = number_bit (s n) (v n) (w n) d.0 (r.alike c) d.3;
        })

    by_constant : (c : Option ℕ) → (s n).constant ≡ c
        → SameOr (bits_taken (unwrap_or c (as_number (v n))) (select_bits s v (s n) i)) (bits_taken (unwrap_or c (as_number (w n))) (select_bits s v (s n) i)) v w HasValue
        (name_reads s n (one i))
    by_constant (Some c) e = inl refl
    by_constant None e =
        at_bit e (part_or_differ (object_width (s n)) (select_bits s v (s n) i) (as_number (v n)) (as_number (w n)) (numbers_below (s n) (v n) (w n) (r.alike e))
        (numbers_below (s n) (w n) (v n) (alike_turned (s n) (v n) (w n) (r.alike e))))

-- a word of a memory
word_read : (s : Scope) (v w : Valuation) (HasValue : Name → Type 0) (n : Name) (i : Select) → HasNoConstantMemory s
    → IsReadable s v w HasValue n
    → SameOr (indexed_word (s n) (select_index s v i) (v n)) (indexed_word (s n) (select_index s v i) (w n)) v w HasValue (name_reads s n (one i))
word_read s v w HasValue n i p r = by_word (option_and_then (λ a. word_number a (select_index s v i)) (s n).addresses) refl
  where
    at_bit : (k : ℕ) → option_and_then (λ a. word_number a (select_index s v i)) (s n).addresses ≡ Some k → (s n).constant ≡ None
        → (slice_index (as_words (v n)) k ≡ slice_index (as_words (w n)) k)
        ⊎ DifferBelow (object_width (s n)) (slice_index (as_words (v n)) k) (slice_index (as_words (w n)) k)
        → SameOr (slice_index (as_words (v n)) k) (slice_index (as_words (w n)) k) v w HasValue (name_reads s n (one i))
    at_bit k h c (inl e) = inl e
    at_bit k h c (inr d) =
        inr (record {
          bit = record { of_name = n; word = k; place = d.0 };
          is_so =
              name_read s n (one i) k d.0 c (in_range (s n) k d.0 (word_within (s n).addresses (select_index s v i) k h) d.1)
              (λ g. ap (λ t. cond t (may_mean_word s (s n) i k) (may_mean_bit s (s n) i d.0)) (is_addressed (s n).addresses (select_index s v i) k h)
              ∙ means_word s v (s n) i k p h);
          has_value = r.has_value c;
          differs = word_bit (s n) (v n) (w n) k d.0 (r.alike c) d.2;
        })

    by_word : (q : Option ℕ) → option_and_then (λ a. word_number a (select_index s v i)) (s n).addresses ≡ q
        → SameOr (word_or_zero q (v n)) (word_or_zero q (w n)) v w HasValue (name_reads s n (one i))
    by_word None h = inl refl
    by_word (Some k) h =
        let c : (s n).constant ≡ None = no_constant s n p (is_addressed (s n).addresses (select_index s v i) k h) in
        at_bit k h c (one_or_differ (object_width (s n)) (slice_index (as_words (v n)) k) (slice_index (as_words (w n)) k)
        (words_below (s n) (v n) (w n) k (r.alike c)) (words_below (s n) (w n) (v n) k (alike_turned (s n) (v n) (w n) (r.alike c))))

-- bits of a word
word_bits_read : (s : Scope) (v w : Valuation) (HasValue : Name → Type 0) (n : Name) (i j : Select) → HasNoConstantMemory s
    → IsReadable s v w HasValue n
    → SameOr (bits_taken (indexed_word (s n) (select_index s v i) (v n)) (select_bits s v (s n) j))
    (bits_taken (indexed_word (s n) (select_index s v i) (w n)) (select_bits s v (s n) j)) v w HasValue (name_reads s n (two i j))
word_bits_read s v w HasValue n i j p r = by_word (option_and_then (λ a. word_number a (select_index s v i)) (s n).addresses) refl
  where
    at_bit : (k : ℕ) → option_and_then (λ a. word_number a (select_index s v i)) (s n).addresses ≡ Some k → (s n).constant ≡ None
        → (bits_taken (slice_index (as_words (v n)) k) (select_bits s v (s n) j) ≡ bits_taken (slice_index (as_words (w n)) k) (select_bits s v (s n) j))
        ⊎ ((b : ℕ) × (b < object_width (s n)) × IsTrue (is_within (select_bits s v (s n) j) b)
        × (is_set (slice_index (as_words (v n)) k) b ≢ is_set (slice_index (as_words (w n)) k) b))
        → SameOr (bits_taken (slice_index (as_words (v n)) k) (select_bits s v (s n) j)) (bits_taken (slice_index (as_words (w n)) k) (select_bits s v (s n) j)) v w HasValue
        (name_reads s n (two i j))
    at_bit k h c (inl e) = inl e
    at_bit k h c (inr d) =
        inr (record {
          bit = record { of_name = n; word = k; place = d.0 };
          is_so =
              name_read s n (two i j) k d.0 c (in_range (s n) k d.0 (word_within (s n).addresses (select_index s v i) k h) d.1)
              (λ g. and_from (may_mean_word s (s n) i k) (may_mean_bit s (s n) j d.0) (means_word s v (s n) i k p h) (means_bit s v (s n) j d.0 p d.2));
          has_value = r.has_value c;
          differs = word_bit (s n) (v n) (w n) k d.0 (r.alike c) d.3;
        })

    by_word : (q : Option ℕ) → option_and_then (λ a. word_number a (select_index s v i)) (s n).addresses ≡ q
        → SameOr (bits_taken (word_or_zero q (v n)) (select_bits s v (s n) j)) (bits_taken (word_or_zero q (w n)) (select_bits s v (s n) j)) v w HasValue
        (name_reads s n (two i j))
    by_word None h = inl refl
    by_word (Some k) h =
        let c : (s n).constant ≡ None = no_constant s n p (is_addressed (s n).addresses (select_index s v i) k h) in
        at_bit k h c (part_or_differ (object_width (s n)) (select_bits s v (s n) j) (slice_index (as_words (v n)) k) (slice_index (as_words (w n)) k)
        (words_below (s n) (v n) (w n) k (r.alike c)) (words_below (s n) (w n) (v n) k (alike_turned (s n) (v n) (w n) (r.alike c))))

-- ---- a name with its selects, given what is so of them

pub name_whole : (s : Scope) (v w : Valuation) (HasValue : Name → Type 0) (n : Name) → IsReadable s v w HasValue n
    → SameOr (selected s v (s n) (v n) whole) (selected s w (s n) (w n) whole) v w HasValue (reads s (name n whole))
name_whole s v w HasValue n r = wider (whole_read s v w HasValue n r)
  where
    wider : SameOr (whole_value (s n) (v n)) (whole_value (s n) (w n)) v w HasValue (name_reads s n whole)
        → SameOr (whole_value (s n) (v n)) (whole_value (s n) (w n)) v w HasValue (or_in (name_reads s n whole) (selects_read s whole))
    wider (inl e) = inl e
    wider (inr f) = inr (found_left v w HasValue (name_reads s n whole) (selects_read s whole) f)

pub name_one : (s : Scope) (v w : Valuation) (HasValue : Name → Type 0) (n : Name) (i : Select) → HasNoConstantMemory s → IsReadable s v w HasValue n
    → SameOr (select_index s v i) (select_index s w i) v w HasValue (select_reads s i)
    → SameOr (select_bits s v (s n) i) (select_bits s w (s n) i) v w HasValue (select_reads s i)
    → SameOr (selected s v (s n) (v n) (one i)) (selected s w (s n) (w n) (one i)) v w HasValue (reads s (name n (one i)))
name_one s v w HasValue n i p r at_index at_bits = by_kind (is_memory (s n)) refl
  where
    wider : {a b c : ℕ} → SameOr a b v w HasValue (name_reads s n (one i)) → b ≡ c → SameOr a c v w HasValue (or_in (name_reads s n (one i)) (select_reads s i))
    wider (inl e) g = inl (e ∙ g)
    wider (inr f) g = inr (found_left v w HasValue (name_reads s n (one i)) (select_reads s i) f)

    by_kind : (m : Bool) → is_memory (s n) ≡ m
        → SameOr (cond m (indexed_word (s n) (select_index s v i) (v n)) (bits_taken (whole_value (s n) (v n)) (select_bits s v (s n) i)))
        (cond m (indexed_word (s n) (select_index s w i) (w n)) (bits_taken (whole_value (s n) (w n)) (select_bits s w (s n) i))) v w HasValue
        (or_in (name_reads s n (one i)) (select_reads s i))
    by_kind true m =
        and_then v w HasValue (name_reads s n (one i)) (select_reads s i) at_index
        (λ e. wider (word_read s v w HasValue n i p r) (ap (λ z. indexed_word (s n) z (w n)) e))
    by_kind false m =
        and_then v w HasValue (name_reads s n (one i)) (select_reads s i) at_bits
        (λ e. wider (bits_read s v w HasValue n i p r m) (ap (λ z. bits_taken (whole_value (s n) (w n)) z) e))

pub name_two : (s : Scope) (v w : Valuation) (HasValue : Name → Type 0) (n : Name) (i j : Select) → HasNoConstantMemory s → IsReadable s v w HasValue n
    → SameOr (select_index s v i) (select_index s w i) v w HasValue (select_reads s i)
    → SameOr (select_bits s v (s n) j) (select_bits s w (s n) j) v w HasValue (select_reads s j)
    → SameOr (selected s v (s n) (v n) (two i j)) (selected s w (s n) (w n) (two i j)) v w HasValue (reads s (name n (two i j)))
name_two s v w HasValue n i j p r (inr f) at_bits =
    inr (found_right v w HasValue (name_reads s n (two i j)) (or_in (select_reads s i) (select_reads s j)) (found_left v w HasValue (select_reads s i) (select_reads s j) f))
name_two s v w HasValue n i j p r (inl e) (inr f) =
    inr (found_right v w HasValue (name_reads s n (two i j)) (or_in (select_reads s i) (select_reads s j)) (found_right v w HasValue (select_reads s i) (select_reads s j) f))
name_two s v w HasValue n i j p r (inl e) (inl g) = wider (word_bits_read s v w HasValue n i j p r)
  where
    moved : bits_taken (indexed_word (s n) (select_index s v i) (w n)) (select_bits s v (s n) j)
        ≡ bits_taken (indexed_word (s n) (select_index s w i) (w n)) (select_bits s w (s n) j)
    moved =
        ap (λ z. bits_taken (indexed_word (s n) z (w n)) (select_bits s v (s n) j)) e
        ∙ ap (λ z. bits_taken (indexed_word (s n) (select_index s w i) (w n)) z) g

    wider : SameOr (bits_taken (indexed_word (s n) (select_index s v i) (v n)) (select_bits s v (s n) j))
        (bits_taken (indexed_word (s n) (select_index s v i) (w n)) (select_bits s v (s n) j)) v w HasValue (name_reads s n (two i j))
        → SameOr (bits_taken (indexed_word (s n) (select_index s v i) (v n)) (select_bits s v (s n) j))
        (bits_taken (indexed_word (s n) (select_index s w i) (w n)) (select_bits s w (s n) j)) v w HasValue
        (or_in (name_reads s n (two i j)) (or_in (select_reads s i) (select_reads s j)))
    wider (inl h) = inl (h ∙ moved)
    wider (inr f) = inr (found_left v w HasValue (name_reads s n (two i j)) (or_in (select_reads s i) (select_reads s j)) f)
