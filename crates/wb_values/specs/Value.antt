-- Names, sorts, values, and what a finite map from names gives.
use Rattle.std.specs.Prelude.{ℕ, ◌^◌, Bool, true, false, cond, ◌&&◌, ◌==◌, nat_lt, List, [], ◌∷◌, length, Option, Some, None, IsTrue}
use Rattle.std.specs.Str.{bytes_eq}

-- A name is its bytes.
abbrev pub Name : Type 0
Name = List ℕ

abbrev pub same_name : Name → Name → Bool
same_name = bytes_eq

-- The sorts of terms: a truth value; a word of so many bits; a memory of 2^a words of d bits.
pub data Sort : Type 0 where
  truth : Sort
  word : (width : ℕ) → Sort
  memory : (address_width word_width : ℕ) → Sort

-- A value: a truth value, a number, or the words of a memory by ascending address.
pub data Value : Type 0 where
  truth_value : Bool → Value
  number : ℕ → Value
  words : List ℕ → Value

-- every number of the list is below 2^d
abbrev pub all_below : ℕ → List ℕ → Bool
all_below d [] = true
all_below d (x ∷ xs) = nat_lt x (2 ^ d) && all_below d xs

-- The value is one of the sort.
abbrev pub is_of_sort : Sort → Value → Bool
is_of_sort truth (truth_value b) = true
is_of_sort (word w) (number n) = nat_lt n (2 ^ w)
is_of_sort (memory a d) (words xs) = (length xs == 2 ^ a) && all_below d xs
is_of_sort _ _ = false

abbrev pub HasSort : Value → Sort → Type 0
HasSort x s = IsTrue (is_of_sort s x)

-- What a value is read as where a truth value, a number or a memory is wanted.
-- A value of another kind, which a well-sorted term never meets there, is read as false, 0 or no words.
abbrev pub as_truth : Value → Bool
as_truth (truth_value b) = b
as_truth _ = false

abbrev pub as_number : Value → ℕ
as_number (number n) = n
as_number _ = 0

abbrev pub as_words : Value → List ℕ
as_words (words xs) = xs
as_words _ = []

-- The truth value 0 or 1, or the number, as digits print it.
abbrev pub numeral_of : Value → ℕ
numeral_of (truth_value b) = cond b 1 0
numeral_of (number n) = n
numeral_of (words _) = 0

-- What each name stands for: states, inputs, registers and environments are read so.
abbrev pub Valuation : Type 0
Valuation = Name → Value

-- A finite map from names is a list of entries, each name once.
abbrev pub Entries : Type 0 → Type 0
Entries A = List (Name × A)

-- what the map has under a name
abbrev pub entry_of : {A : Type 0} → Entries A → Name → Option A
entry_of [] n = None
entry_of (e ∷ es) n = cond (same_name e.0 n) (Some e.1) (entry_of es n)

abbrev pub value_or_zero : Option Value → Value
value_or_zero (Some x) = x
value_or_zero None = number 0

-- The valuation that a finite map gives: a name that it lacks is 0 there.
abbrev pub valuation_of : Entries Value → Valuation
valuation_of es n = value_or_zero (entry_of es n)

-- the valuation with one name changed
abbrev pub with_value : Valuation → Name → Value → Valuation
with_value v n x m = cond (same_name n m) x (v m)
