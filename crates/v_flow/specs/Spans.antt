-- The sets of bits that spans stand for.
use Rattle.std.specs.Prelude.{ℕ, min, Bool, ◌&&◌, nat_le, nat_lt, List, [], ◌∷◌, ℤ, pos, negsuc}
use Rattle.verilog_meaning.specs.Expression.{Scope}
use Rattle.verilog_meaning.specs.Register.{is_set, is_bit_of}
use Rattle.wb_values.specs.Value.{same_name}
use Rattle.verilog_designs.specs.Reads.{BitSet, no_bits, or_in}
use Rattle.v_flow.specs.declared.span.Span.{Span}

-- a number from the first on, and below the last
abbrev pub is_between : ℕ → ℕ → ℕ → Bool
is_between from to k = nat_le from k && nat_lt k to

abbrev pub bits_of : Span → BitSet
bits_of x n k b = same_name x.name.now n && (is_between x.from_word x.to_word k && is_set x.bits b)

abbrev pub bits_in : List Span → BitSet
bits_in [] = no_bits
bits_in (x ∷ xs) = or_in (bits_of x) (bits_in xs)

-- Those of the bits that are bits of their names. (A parameter has bits here, though none in the rules: whoever asks for bits of nets and
-- variables leaves out constants.)
abbrev pub existing : Scope → BitSet → BitSet
existing s p n k b = is_bit_of (s n) k b && p n k b

-- the number from 0 to the width, both among them, that is nearest to an integer
abbrev pub clamped : ℕ → ℤ → ℕ
clamped w (pos n) = min n w
clamped w (negsuc n) = 0
