-- Sets that have bits of their names alone.
use Rattle.std.specs.Prelude.{◌≡◌, ℕ, true, List, [], ◌∷◌}
use Rattle.wb_values.specs.Value.{Name}
use Rattle.verilog_meaning.specs.Expression.{Scope}
use Rattle.verilog_meaning.specs.Register.{is_bit_of}
use Rattle.verilog_designs.specs.Reads.{BitSet}

-- each bit is one of its name
abbrev pub IsOfBits : Scope → BitSet → Type 0
IsOfBits s p = (n : Name) (k b : ℕ) → p n k b ≡ true → is_bit_of (s n) k b ≡ true

abbrev pub AreOfBits : Scope → List BitSet → Type 0
AreOfBits s [] = Unit {0}
AreOfBits s (p ∷ ps) = IsOfBits s p × AreOfBits s ps
