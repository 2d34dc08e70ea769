-- The number formulas of the words' operators: what each operator does to the numbers of its operands.
-- A word of width w is a number below 2^w. Where two operands have one width it is written first.
use Rattle.std.specs.Prelude.{ℕ, ◌+◌, ◌-◌, ◌*◌, ◌/◌, ◌%◌, ◌^◌, min, Bool, cond, ◌==◌, nat_lt, nat_le, bit_and, bit_or, bit_xor, ℤ, pos, ◌-ℤ◌, int_lt, int_le}

-- the top bit of a word
abbrev pub top_bit : ℕ → ℕ → Bool
top_bit w x = nat_le (2 ^ w) (2 * x)

-- a word read in two's complement
abbrev pub signed_value : ℕ → ℕ → ℤ
signed_value w x = cond (top_bit w x) (pos x -ℤ pos (2 ^ w)) (pos x)

-- complement, bit by bit
abbrev pub word_not : ℕ → ℕ → ℕ
word_not w x = 2 ^ w - 1 - x

-- and, or and exclusive or, bit by bit
abbrev pub word_and : ℕ → ℕ → ℕ
word_and x y = bit_and x y

abbrev pub word_or : ℕ → ℕ → ℕ
word_or x y = bit_or x y

abbrev pub word_xor : ℕ → ℕ → ℕ
word_xor x y = bit_xor x y

-- arithmetic modulo 2^w
abbrev pub word_neg : ℕ → ℕ → ℕ
word_neg w x = (2 ^ w - x) % 2 ^ w

abbrev pub word_add : ℕ → ℕ → ℕ → ℕ
word_add w x y = (x + y) % 2 ^ w

abbrev pub word_sub : ℕ → ℕ → ℕ → ℕ
word_sub w x y = (x + (2 ^ w - y)) % 2 ^ w

abbrev pub word_mul : ℕ → ℕ → ℕ → ℕ
word_mul w x y = (x * y) % 2 ^ w

-- Shifts by the unsigned number n. From n = w on, shl and lshr give 0, and ashr copies of the top bit.
abbrev pub word_shl : ℕ → ℕ → ℕ → ℕ
word_shl w x n = (x * 2 ^ min n w) % 2 ^ w

abbrev pub word_lshr : ℕ → ℕ → ℕ → ℕ
word_lshr w x n = x / 2 ^ min n w

abbrev pub word_ashr : ℕ → ℕ → ℕ → ℕ
word_ashr w x n = x / 2 ^ min n w + cond (top_bit w x) (2 ^ w - 2 ^ (w - min n w)) 0

-- comparisons: equal, unsigned, and in two's complement
abbrev pub word_eq : ℕ → ℕ → Bool
word_eq x y = x == y

abbrev pub word_ult : ℕ → ℕ → Bool
word_ult x y = nat_lt x y

abbrev pub word_ule : ℕ → ℕ → Bool
word_ule x y = nat_le x y

abbrev pub word_slt : ℕ → ℕ → ℕ → Bool
word_slt w x y = int_lt (signed_value w x) (signed_value w y)

abbrev pub word_sle : ℕ → ℕ → ℕ → Bool
word_sle w x y = int_le (signed_value w x) (signed_value w y)

-- x is the high part, y the low part of width w
abbrev pub word_concat : ℕ → ℕ → ℕ → ℕ
word_concat w x y = x * 2 ^ w + y

-- bits h to l, counted from 0 at the low end
abbrev pub word_extract : ℕ → ℕ → ℕ → ℕ
word_extract h l x = (x / 2 ^ l) % 2 ^ (h + 1 - l)

-- from width w to width n, filled with 0
abbrev pub word_zext : ℕ → ℕ
word_zext x = x

-- from width w to width n, filled with the top bit
abbrev pub word_sext : ℕ → ℕ → ℕ → ℕ
word_sext n w x = x + cond (top_bit w x) (2 ^ n - 2 ^ w) 0
