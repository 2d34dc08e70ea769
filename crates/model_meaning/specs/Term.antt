-- Terms of models: their forms, their sorts and their values, one line for each form.
use Rattle.std.specs.Prelude.{ℕ, ◌+◌, ◌-◌, ◌^◌, Bool, true, false, cond, ◌&&◌, ◌||◌, ◌==◌, nat_le, nat_lt, slice_index, slice_set, Option, Some, None}
use Rattle.std.specs.Prelude.{not as truth_not}
use Rattle.wb_values.specs.Value.{Name, Sort, truth, word, memory, Value, truth_value, number, words, as_truth, as_number, as_words, Valuation}
use Rattle.wb_values.specs.Choice.{some_if}
use Rattle.wb_values.specs.Number.{word_not, word_and, word_or, word_xor, word_neg, word_add, word_sub, word_mul, word_shl, word_lshr, word_ashr, word_eq, word_ult, word_ule, word_slt, word_sle, word_concat, word_extract, word_zext, word_sext}

-- A term as a tree. A name stands with the sort that its declaration gives it.
pub data Term : Type 0 where
  name : Name → Sort → Term
  constant_truth : Bool → Term
  const : (width value : ℕ) → Term
  not neg : Term → Term
  and or xor : Term → Term → Term
  add sub mul : Term → Term → Term
  shl lshr ashr : Term → Term → Term
  eq ult ule slt sle : Term → Term → Term
  concat : Term → Term → Term
  extract : (high low : ℕ) → Term → Term
  zext sext : (width : ℕ) → Term → Term
  ite : Term → Term → Term → Term
  load : Term → Term → Term
  store : Term → Term → Term → Term

-- A word has 1 to 128 bits, a memory 2^1 to 2^16 words.
abbrev pub is_width : ℕ → Bool
is_width w = nat_le 1 w && nat_le w 128

abbrev pub is_sort : Sort → Bool
is_sort truth = true
is_sort (word w) = is_width w
is_sort (memory a d) = nat_le 1 a && nat_le a 16 && is_width d

abbrev pub is_memory_sort : Sort → Bool
is_memory_sort (memory a d) = true
is_memory_sort _ = false

abbrev pub same_sort : Sort → Sort → Bool
same_sort truth truth = true
same_sort (word w) (word u) = w == u
same_sort (memory a d) (memory b e) = (a == b) && (d == e)
same_sort _ _ = false

-- a truth value or a word, of the operand's sort
abbrev pub bits_sort : Option Sort → Option Sort
bits_sort (Some truth) = Some truth
bits_sort (Some (word w)) = Some (word w)
bits_sort _ = None

-- both truth values or both words of one width, of that sort
abbrev pub same_bits_sort : Option Sort → Option Sort → Option Sort
same_bits_sort (Some truth) (Some truth) = Some truth
same_bits_sort (Some (word w)) (Some (word u)) = some_if (w == u) (word w)
same_bits_sort _ _ = None

abbrev pub word_sort : Option Sort → Option Sort
word_sort (Some (word w)) = Some (word w)
word_sort _ = None

-- two words of one width, of that width
abbrev pub same_word_sort : Option Sort → Option Sort → Option Sort
same_word_sort (Some (word w)) (Some (word u)) = some_if (w == u) (word w)
same_word_sort _ _ = None

-- a truth value where the operands have a sort
abbrev pub compared : Option Sort → Option Sort
compared (Some _) = Some truth
compared None = None

abbrev pub concat_sort : Option Sort → Option Sort → Option Sort
concat_sort (Some (word u)) (Some (word w)) = some_if (nat_le (u + w) 128) (word (u + w))
concat_sort _ _ = None

abbrev pub extract_sort : ℕ → ℕ → Option Sort → Option Sort
extract_sort h l (Some (word w)) = some_if (nat_le l h && nat_lt h w) (word (h + 1 - l))
extract_sort h l _ = None

abbrev pub extended_sort : ℕ → Option Sort → Option Sort
extended_sort n (Some (word w)) = some_if (nat_le w n && nat_le n 128) (word n)
extended_sort n _ = None

abbrev pub ite_sort : Option Sort → Option Sort → Option Sort → Option Sort
ite_sort (Some truth) (Some s) (Some t) = some_if (same_sort s t) s
ite_sort _ _ _ = None

abbrev pub load_sort : Option Sort → Option Sort → Option Sort
load_sort (Some (memory a d)) (Some (word w)) = some_if (w == a) (word d)
load_sort _ _ = None

abbrev pub store_sort : Option Sort → Option Sort → Option Sort → Option Sort
store_sort (Some (memory a d)) (Some (word w)) (Some (word u)) = some_if ((w == a) && (u == d)) (memory a d)
store_sort _ _ _ = None

-- The sort of a term, where it has one: widths and indexes in range, a constant that fits, operands of the sorts wanted.
abbrev pub sort_of : Term → Option Sort
sort_of (name n s) = some_if (is_sort s) s
sort_of (constant_truth b) = Some truth
sort_of (const w x) = some_if (is_width w && nat_lt x (2 ^ w)) (word w)
sort_of (not x) = bits_sort (sort_of x)
sort_of (and x y) = same_bits_sort (sort_of x) (sort_of y)
sort_of (or x y) = same_bits_sort (sort_of x) (sort_of y)
sort_of (xor x y) = same_bits_sort (sort_of x) (sort_of y)
sort_of (neg x) = word_sort (sort_of x)
sort_of (add x y) = same_word_sort (sort_of x) (sort_of y)
sort_of (sub x y) = same_word_sort (sort_of x) (sort_of y)
sort_of (mul x y) = same_word_sort (sort_of x) (sort_of y)
sort_of (shl x n) = same_word_sort (sort_of x) (sort_of n)
sort_of (lshr x n) = same_word_sort (sort_of x) (sort_of n)
sort_of (ashr x n) = same_word_sort (sort_of x) (sort_of n)
sort_of (eq x y) = compared (same_bits_sort (sort_of x) (sort_of y))
sort_of (ult x y) = compared (same_word_sort (sort_of x) (sort_of y))
sort_of (ule x y) = compared (same_word_sort (sort_of x) (sort_of y))
sort_of (slt x y) = compared (same_word_sort (sort_of x) (sort_of y))
sort_of (sle x y) = compared (same_word_sort (sort_of x) (sort_of y))
sort_of (concat x y) = concat_sort (sort_of x) (sort_of y)
sort_of (extract h l x) = extract_sort h l (sort_of x)
sort_of (zext n x) = extended_sort n (sort_of x)
sort_of (sext n x) = extended_sort n (sort_of x)
sort_of (ite c x y) = ite_sort (sort_of c) (sort_of x) (sort_of y)
sort_of (load m i) = load_sort (sort_of m) (sort_of i)
sort_of (store m i x) = store_sort (sort_of m) (sort_of i) (sort_of x)

abbrev pub width_of_sort : Option Sort → ℕ
width_of_sort (Some (word w)) = w
width_of_sort _ = 0

-- the width of a term that is a word
abbrev pub term_width : Term → ℕ
term_width x = width_of_sort (sort_of x)

-- bit by bit on words, and the same on truth values
abbrev pub complement : ℕ → Value → Value
complement w (truth_value b) = truth_value (truth_not b)
complement w x = number (word_not w (as_number x))

abbrev pub conjunction : Value → Value → Value
conjunction (truth_value a) y = truth_value (a && as_truth y)
conjunction x y = number (word_and (as_number x) (as_number y))

abbrev pub disjunction : Value → Value → Value
disjunction (truth_value a) y = truth_value (a || as_truth y)
disjunction x y = number (word_or (as_number x) (as_number y))

abbrev pub exclusive_or : Value → Value → Value
exclusive_or (truth_value a) y = truth_value (cond a (truth_not (as_truth y)) (as_truth y))
exclusive_or x y = number (word_xor (as_number x) (as_number y))

abbrev pub is_equal : Value → Value → Bool
is_equal (truth_value a) y = cond a (as_truth y) (truth_not (as_truth y))
is_equal x y = word_eq (as_number x) (as_number y)

-- The value of a term under an environment.
abbrev pub val : Term → Valuation → Value
val (name n s) v = v n
val (constant_truth b) v = truth_value b
val (const w x) v = number x
val (not x) v = complement (term_width x) (val x v)
val (and x y) v = conjunction (val x v) (val y v)
val (or x y) v = disjunction (val x v) (val y v)
val (xor x y) v = exclusive_or (val x v) (val y v)
val (neg x) v = number (word_neg (term_width x) (as_number (val x v)))
val (add x y) v = number (word_add (term_width x) (as_number (val x v)) (as_number (val y v)))
val (sub x y) v = number (word_sub (term_width x) (as_number (val x v)) (as_number (val y v)))
val (mul x y) v = number (word_mul (term_width x) (as_number (val x v)) (as_number (val y v)))
val (shl x n) v = number (word_shl (term_width x) (as_number (val x v)) (as_number (val n v)))
val (lshr x n) v = number (word_lshr (term_width x) (as_number (val x v)) (as_number (val n v)))
val (ashr x n) v = number (word_ashr (term_width x) (as_number (val x v)) (as_number (val n v)))
val (eq x y) v = truth_value (is_equal (val x v) (val y v))
val (ult x y) v = truth_value (word_ult (as_number (val x v)) (as_number (val y v)))
val (ule x y) v = truth_value (word_ule (as_number (val x v)) (as_number (val y v)))
val (slt x y) v = truth_value (word_slt (term_width x) (as_number (val x v)) (as_number (val y v)))
val (sle x y) v = truth_value (word_sle (term_width x) (as_number (val x v)) (as_number (val y v)))
val (concat x y) v = number (word_concat (term_width y) (as_number (val x v)) (as_number (val y v)))
val (extract h l x) v = number (word_extract h l (as_number (val x v)))
val (zext n x) v = number (word_zext (as_number (val x v)))
val (sext n x) v = number (word_sext n (term_width x) (as_number (val x v)))
val (ite c x y) v = cond (as_truth (val c v)) (val x v) (val y v)
val (load m i) v = number (slice_index (as_words (val m v)) (as_number (val i v)))
val (store m i x) v = words (slice_set (as_words (val m v)) (as_number (val i v)) (as_number (val x v)))
