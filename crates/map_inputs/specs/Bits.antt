-- The bits of inputs in one scope, and what reads a marked bit.
use Rattle.std.specs.Prelude.{Bool, not, ◌&&◌, List, [], ◌∷◌, IsTrue}
use Rattle.wb_values.specs.Value.{Name, same_name}
use Rattle.verilog_meaning.specs.Expression.{Scope, is_memory}
use Rattle.verilog_meaning.specs.Register.{is_bit_of}
use Rattle.verilog_designs.specs.Reads.{BitSet, no_bits, or_in}
use Rattle.verilog_designs.specs.Dependence.{Bit, is_in}
use Rattle.verilog_renamed.specs.Renamed.{renamed_bit}

-- all bits of a name, where it is no memory
abbrev pub name_bits : Scope → Name → BitSet
name_bits s m n k b = not (is_memory (s m)) && (is_bit_of (s n) k b && same_name m n)

-- those of some names
abbrev pub input_bits : Scope → List Name → BitSet
input_bits s [] = no_bits
input_bits s (n ∷ ns) = or_in (name_bits s n) (input_bits s ns)

-- One of the bits is marked under the new name of its name.
abbrev pub OneIsMarked : (new : Name → Name) → (marked bits : BitSet) → Type 0
OneIsMarked f marked bits = (y : Bit) × IsTrue (is_in bits y) × IsTrue (is_in marked (renamed_bit f y))
