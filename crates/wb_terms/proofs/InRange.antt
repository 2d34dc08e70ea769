-- The sort of a term has its widths in range.
use Rattle.std.proofs.Common.{◌≡◌, ℕ, ◌+◌, ◌-◌, ◌^◌, Bool, true, false, ◌&&◌, nat_le, nat_lt, Option, Some, None, IsTrue, refl, arith}
use Rattle.std.specs.Prelude.{⊤, ◌==◌}
use Rattle.std.proofs.lemmas.Bool.Decides.{nat_tests}
use Rattle.wb_values.specs.Value.{Sort, truth, word, memory}
use Rattle.wb_values.specs.Choice.{some_if}
use Rattle.model_meaning.specs.Term.{Term, name, constant_truth, const, not, neg, and, or, xor, add, sub, mul, shl, lshr, ashr, eq, ult, ule, slt, sle, concat, extract, zext, sext, ite, load, store, is_width, is_sort, same_sort, bits_sort, same_bits_sort, word_sort, same_word_sort, compared, concat_sort, extract_sort, extended_sort, ite_sort, load_sort, store_sort, sort_of}

-- the sort, where there is one, has its widths in range
abbrev pub IsInRange : Option Sort → Type 0
IsInRange (Some s) = IsTrue (is_sort s)
IsInRange None = ⊤

in_range_if : (b : Bool) (s : Sort) → (IsTrue b → IsTrue (is_sort s)) → IsInRange (some_if b s)
in_range_if true s h = h refl
in_range_if false s h = tt

and_left : (a b : Bool) → IsTrue (a && b) → IsTrue a
and_left true b h = refl
and_left false b h = h

and_right : (a b : Bool) → IsTrue (a && b) → IsTrue b
and_right true b h = h
and_right false b h = cc

concat_width : (u w : ℕ) → IsTrue (is_width u) → IsTrue (nat_le (u + w) 128) → IsTrue (is_width (u + w))
concat_width u w h k = grind (arith, nat_tests)

extract_width : (h l w : ℕ) → IsTrue (is_width w) → IsTrue (nat_le l h && nat_lt h w) → IsTrue (is_width (h + 1 - l))
extract_width h l w a b = grind (arith, nat_tests)

extended_width : (n w : ℕ) → IsTrue (is_width w) → IsTrue (nat_le w n && nat_le n 128) → IsTrue (is_width n)
extended_width n w a b = grind (arith, nat_tests)

in_range_bits : (a : Option Sort) → IsInRange a → IsInRange (bits_sort a)
in_range_bits None h = tt
in_range_bits (Some truth) h = refl
in_range_bits (Some (word w)) h = h
in_range_bits (Some (memory a d)) h = tt

in_range_word : (a : Option Sort) → IsInRange a → IsInRange (word_sort a)
in_range_word None h = tt
in_range_word (Some truth) h = tt
in_range_word (Some (word w)) h = h
in_range_word (Some (memory a d)) h = tt

in_range_same_word : (a b : Option Sort) → IsInRange a → IsInRange (same_word_sort a b)
in_range_same_word (Some (word w)) (Some (word u)) h = in_range_if (w == u) (word w) (λ _. h)
in_range_same_word _ _ h = tt

in_range_same_bits : (a b : Option Sort) → IsInRange a → IsInRange (same_bits_sort a b)
in_range_same_bits (Some truth) (Some truth) h = refl
in_range_same_bits (Some (word w)) (Some (word u)) h = in_range_if (w == u) (word w) (λ _. h)
in_range_same_bits _ _ h = tt

in_range_compared : (a : Option Sort) → IsInRange (compared a)
in_range_compared None = tt
in_range_compared (Some s) = refl

in_range_concat : (a b : Option Sort) → IsInRange a → IsInRange (concat_sort a b)
in_range_concat (Some (word u)) (Some (word w)) h = in_range_if (nat_le (u + w) 128) (word (u + w)) (concat_width u w h)
in_range_concat _ _ h = tt

in_range_extract : (high low : ℕ) (a : Option Sort) → IsInRange a → IsInRange (extract_sort high low a)
in_range_extract high low (Some (word w)) h = in_range_if (nat_le low high && nat_lt high w) (word (high + 1 - low)) (extract_width high low w h)
in_range_extract high low _ h = tt

in_range_extended : (n : ℕ) (a : Option Sort) → IsInRange a → IsInRange (extended_sort n a)
in_range_extended n (Some (word w)) h = in_range_if (nat_le w n && nat_le n 128) (word n) (extended_width n w h)
in_range_extended n _ h = tt

in_range_ite : (c a b : Option Sort) → IsInRange a → IsInRange (ite_sort c a b)
in_range_ite (Some truth) (Some s) (Some t) h = in_range_if (same_sort s t) s (λ _. h)
in_range_ite _ _ _ h = tt

in_range_load : (m i : Option Sort) → IsInRange m → IsInRange (load_sort m i)
in_range_load (Some (memory a d)) (Some (word w)) h = in_range_if (w == a) (word d) (λ _. and_right (nat_le 1 a && nat_le a 16) (is_width d) h)
in_range_load _ _ h = tt

in_range_store : (m i x : Option Sort) → IsInRange m → IsInRange (store_sort m i x)
in_range_store (Some (memory a d)) (Some (word w)) (Some (word u)) h = in_range_if ((w == a) && (u == d)) (memory a d) (λ _. h)
in_range_store _ _ _ h = tt

pub IsInRange-sort_of : (t : Term) → IsInRange (sort_of t)
IsInRange-sort_of (name n s) = in_range_if (is_sort s) s (λ h. h)
IsInRange-sort_of (constant_truth b) = refl
IsInRange-sort_of (const w x) = in_range_if (is_width w && nat_lt x (2 ^ w)) (word w) (and_left (is_width w) (nat_lt x (2 ^ w)))
IsInRange-sort_of (not x) = in_range_bits (sort_of x) (IsInRange-sort_of x)
IsInRange-sort_of (and x y) = in_range_same_bits (sort_of x) (sort_of y) (IsInRange-sort_of x)
IsInRange-sort_of (or x y) = in_range_same_bits (sort_of x) (sort_of y) (IsInRange-sort_of x)
IsInRange-sort_of (xor x y) = in_range_same_bits (sort_of x) (sort_of y) (IsInRange-sort_of x)
IsInRange-sort_of (neg x) = in_range_word (sort_of x) (IsInRange-sort_of x)
IsInRange-sort_of (add x y) = in_range_same_word (sort_of x) (sort_of y) (IsInRange-sort_of x)
IsInRange-sort_of (sub x y) = in_range_same_word (sort_of x) (sort_of y) (IsInRange-sort_of x)
IsInRange-sort_of (mul x y) = in_range_same_word (sort_of x) (sort_of y) (IsInRange-sort_of x)
IsInRange-sort_of (shl x y) = in_range_same_word (sort_of x) (sort_of y) (IsInRange-sort_of x)
IsInRange-sort_of (lshr x y) = in_range_same_word (sort_of x) (sort_of y) (IsInRange-sort_of x)
IsInRange-sort_of (ashr x y) = in_range_same_word (sort_of x) (sort_of y) (IsInRange-sort_of x)
IsInRange-sort_of (eq x y) = in_range_compared (same_bits_sort (sort_of x) (sort_of y))
IsInRange-sort_of (ult x y) = in_range_compared (same_word_sort (sort_of x) (sort_of y))
IsInRange-sort_of (ule x y) = in_range_compared (same_word_sort (sort_of x) (sort_of y))
IsInRange-sort_of (slt x y) = in_range_compared (same_word_sort (sort_of x) (sort_of y))
IsInRange-sort_of (sle x y) = in_range_compared (same_word_sort (sort_of x) (sort_of y))
IsInRange-sort_of (concat x y) = in_range_concat (sort_of x) (sort_of y) (IsInRange-sort_of x)
IsInRange-sort_of (extract h l x) = in_range_extract h l (sort_of x) (IsInRange-sort_of x)
IsInRange-sort_of (zext n x) = in_range_extended n (sort_of x) (IsInRange-sort_of x)
IsInRange-sort_of (sext n x) = in_range_extended n (sort_of x) (IsInRange-sort_of x)
IsInRange-sort_of (ite c x y) = in_range_ite (sort_of c) (sort_of x) (sort_of y) (IsInRange-sort_of x)
IsInRange-sort_of (load m i) = in_range_load (sort_of m) (sort_of i) (IsInRange-sort_of m)
IsInRange-sort_of (store m i x) = in_range_store (sort_of m) (sort_of i) (sort_of x) (IsInRange-sort_of m)

pub is_sort-sort_of : (t : Term) (s : Sort) → sort_of t ≡ Some s → IsTrue (is_sort s)
is_sort-sort_of t s e = rw e at (IsInRange-sort_of t)
