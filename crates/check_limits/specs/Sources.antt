-- The memory bits that the source of a design declares.
use Rattle.std.specs.Prelude.{◌≡◌, ℕ, ◌*◌, cond}
use Rattle.wb_values.specs.Value.{Name}
use Rattle.verilog_meaning.specs.Expression.{Object, object_width, is_memory}
use Rattle.verilog_meaning.specs.Register.{word_count}
use Rattle.verilog_meaning.specs.Hierarchy.{Placed, placed_scope, dotted}
use Rattle.verilog_meaning.specs.Settled.{Design}
use Rattle.verilog_registers.specs.Registers.{IsRegister}

-- the bits of a memory, of each word that it declares; what is no memory has none
abbrev pub declared_bits : Object → ℕ
declared_bits o = cond (is_memory o) (word_count o * object_width o) 0

-- The name is that of a register of the source, which declares so many memory bits.
pub record DeclaresBits (d : Design) (n : Name) (bits : ℕ) : Type 0 where
  pub placed : Placed
  pub name : Name
  pub is_name : n ≡ dotted placed.path name
  pub is_register : IsRegister d placed name
  pub has_bits : bits ≡ declared_bits (placed_scope placed name)
