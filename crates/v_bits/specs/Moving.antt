-- Bits at places that are known only when the term is worth something: the places are words of 64 bits.
use Rattle.std.specs.Prelude.{◌≡◌, ℕ, ◌+◌, ◌-◌, ◌%◌, ◌^◌, ◌<◌, ◌≤◌, Bool, cond, ◌==◌, nat_le, ℤ, pos, ◌-ℤ◌}
use Rattle.wb_values.specs.Number.{word_or, word_shl, word_lshr, word_neg, word_sub}
use Rattle.verilog_meaning.specs.Expression.{Object, widened, place_of_bit, bits_from}

-- An index of w bits as a word of 64 bits, where 62 bits are enough for it; 2^62 stands for all others.
abbrev pub near_wide : Bool → ℕ → ℕ → ℕ
near_wide signed w i = cond (widened signed 62 w (i % 2 ^ 62) == i) (widened signed 62 64 (i % 2 ^ 62)) (2 ^ 62)

abbrev pub near : Bool → ℕ → ℕ → ℕ
near signed w i = cond (nat_le w 62) (widened signed w 64 i) (near_wide signed w i)

-- The word a of 64 bits is the integer z in two's complement, which has no more than c in size; or both are far from 0, at least b.
pub data IsPlace (b c : ℕ) (z : ℤ) (a : ℕ) : Type 0 where
  at_place : z ≡ pos a → a < c → IsPlace b c z a
  below_zero : z ≡ pos a -ℤ pos (2 ^ 64) → 2 ^ 64 - c ≤ a → a < 2 ^ 64 → IsPlace b c z a
  far_above : (k : ℕ) → z ≡ pos k → b ≤ k → b ≤ a → a ≤ 2 ^ 64 - b → IsPlace b c z a
  far_below : (k : ℕ) → z ≡ pos 0 -ℤ pos k → b ≤ k → b ≤ a → a ≤ 2 ^ 64 - b → IsPlace b c z a

-- a number of m bits moved down by the place a, or up where it is negative
abbrev pub shifted : ℕ → ℕ → ℕ → ℕ
shifted m x a = word_or (word_lshr m x a) (word_shl m x (word_neg 64 a))

-- n bits of it
abbrev pub moved : ℕ → ℕ → ℕ → ℕ → ℕ
moved m n x a = shifted m x a % 2 ^ n

-- The place of the bit with the index a, and so many places back, as a word of 64 bits.
abbrev pub placed : Object → ℕ → ℕ → ℕ
placed o back a = cond (nat_le o.right o.left) (word_sub 64 a (o.right + back)) (word_sub 64 (word_sub 64 o.right a) back)

-- so many bits of an object, the lowest of them so many places below that with the index z
abbrev pub taken_from : Object → ℕ → ℕ → ℤ → ℕ → ℕ
taken_from o back n z x = bits_from (place_of_bit o z -ℤ pos back) n x
