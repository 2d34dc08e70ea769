-- What circuits over two words of one width give, as numbers.
use Rattle.std.specs.Prelude.{◌≡◌, ℕ, ◌+◌, ◌-◌, ◌*◌, ◌%◌, ◌^◌, Bool, List, length}
use Rattle.wb_values.specs.Number.{word_mul, word_shl, word_lshr, word_ashr}
use Rattle.gate_base.specs.declared.bits.Bit.{Bit}
use Rattle.gate_base.specs.Circuit.{Circuit, FollowsCircuit, bit_value}
use Rattle.gate_words.specs.declared.operators.Operator.{Operator}
use Rattle.gate_words.specs.declared.operators.Operator.TheVariants.{Mul, Shl, Lshr, Ashr}
use Rattle.gate_words.specs.Binary.{digit, number_under, AreKnown}

-- The bits are as many as those of xs, and write what the function gives of the width and the two numbers.
pub record WritesWord (c : Circuit) (f : ℕ → ℕ → ℕ → ℕ) (xs ys bits : List Bit) : Type 0 where
  pub known : AreKnown c bits
  pub width : length bits ≡ length xs
  pub number : (w : List Bool) → FollowsCircuit w c → number_under w bits ≡ f (length xs) (number_under w xs) (number_under w ys)

-- what an operator gives of the width and the two numbers
abbrev pub applied : Operator → ℕ → ℕ → ℕ → ℕ
applied Mul = word_mul
applied Shl = word_shl
applied Lshr = word_lshr
applied Ashr = word_ashr

-- The bits write a sum to which xs, moved up by so many places, is added where a bit is true.
pub record IsWithRow (c : Circuit) (sum xs : List Bit) (chosen : Bit) (place : ℕ) (bits : List Bit) : Type 0 where
  pub known : AreKnown c bits
  pub width : length bits ≡ length xs
  pub number : (w : List Bool) → FollowsCircuit w c
      → number_under w bits ≡ (number_under w sum + digit (bit_value w chosen) * (number_under w xs * 2 ^ place)) % 2 ^ length xs

-- The bits write the number of xs with half of 2^w added, modulo 2^w. They are known where those of xs are.
pub record IsFlipped (xs bits : List Bit) : Type 0 where
  pub known : (c : Circuit) → AreKnown c xs → AreKnown c bits
  pub width : length bits ≡ length xs
  pub number : (w : List Bool) → number_under w bits ≡ (number_under w xs + 2 ^ (length xs - 1)) % 2 ^ length xs
