-- Which bits of a register count, and how its words are addressed.
use Rattle.std.specs.Prelude.{◌≡◌, ℕ, List, length, slice_index, Option, option_map, min}
use Rattle.wb_values.specs.Value.{Name}
use Rattle.verilog_meaning.specs.Hierarchy.{Placed, placed_scope}
use Rattle.verilog_meaning.specs.Register.{word_count, is_set}
use Rattle.verilog_meaning.specs.Settled.{is_counted}
pub use Rattle.verilog_registers.specs.Registers.{IsRegister}

-- The least address of a memory; what is no memory has none. For each word, by ascending address, the bits that count, as a number
-- with these bits set; what is no memory has one word.
pub record CountedBits : Type 0 where
  pub least : Option ℕ
  pub masks : List ℕ

-- They are those of a net, variable or memory.
pub record AreBitsOf (p : Placed) (n : Name) (c : CountedBits) : Type 0 where
  pub addressed : c.least ≡ option_map (λ a. min a.0 a.1) (placed_scope p n).addresses
  pub each_word : length c.masks ≡ word_count (placed_scope p n)
  pub counted : (k b : ℕ) → is_set (slice_index c.masks k) b ≡ is_counted p n k b
