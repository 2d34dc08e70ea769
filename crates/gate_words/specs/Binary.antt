-- Lists of bits as numbers, bit 0 first.
use Rattle.std.specs.Prelude.{ℕ, zero, suc, ◌+◌, ◌*◌, Bool, cond, List, [], ◌∷◌, map, All}
use Rattle.sat_base.specs.Literal.{positive}
use Rattle.gate_base.specs.declared.bits.Bit.{Bit}
use Rattle.gate_base.specs.declared.bits.Bit.TheVariants.{Literal}
use Rattle.gate_base.specs.Circuit.{Circuit, IsKnown, bit_value}

-- 1 for a true bit, 0 for a false one
abbrev pub digit : Bool → ℕ
digit b = cond b 1 0

-- the number that the bits write in binary, bit 0 first
abbrev pub number_of : List Bool → ℕ
number_of [] = 0
number_of (b ∷ bs) = number_of bs * 2 + digit b

-- the truth values of bits under an assignment
abbrev pub values : List Bool → List Bit → List Bool
values w bits = map (bit_value w) bits

-- the number that bits write under an assignment
abbrev pub number_under : List Bool → List Bit → ℕ
number_under w bits = number_of (values w bits)

-- the bits have variables of the circuit
abbrev pub AreKnown : Circuit → List Bit → Type 0
AreKnown c bits = All (IsKnown c) bits

-- the positive literals of so many variables from one on
abbrev pub literals_from : ℕ → ℕ → List Bit
literals_from first zero = []
literals_from first (suc n) = Literal (positive first) ∷ literals_from (suc first) n
