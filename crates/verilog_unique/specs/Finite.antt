-- A design has finitely many bits, and chains of dependence between them come to an end.
use Rattle.std.specs.Prelude.{◌≡◌, ◌≤◌, List, [], ◌∷◌, length, Contains, Some, ⊤}
use Rattle.verilog_meaning.specs.Hierarchy.{PathStep, Placed}
use Rattle.verilog_meaning.specs.Settled.{Design, at_path, IsPlacedIn, IsDeclared}
use Rattle.verilog_designs.specs.Dependence.{Bit, IsBitIn, PlacedBit, bit_of, Depends, HasLoop}
use Rattle.verilog_designs.specs.Accepted.{HasBadHierarchy}

-- No module stands deeper than there may be instances below the top: each step of its path leads to another one.
abbrev pub PathsAreShort : Type 0
PathsAreShort = (d : Design) (path : List PathStep) (p : Placed) → ¬ HasBadHierarchy d → at_path d path ≡ Some p → length path ≤ 65536

-- There is a list of all bits of declared names.
abbrev pub BitsAreFinite : Type 0
BitsAreFinite =
    (d : Design) → ¬ HasBadHierarchy d
    → (bits : List PlacedBit) × ((p : Placed) (u : Bit) → IsPlacedIn d p → IsDeclared p u.of_name → IsBitIn p u → Contains bits (bit_of p u))

-- each bit of the chain depends on the next
abbrev pub IsChain : Design → List PlacedBit → Type 0
IsChain d [] = ⊤
IsChain d (u ∷ []) = ⊤
IsChain d (u ∷ y ∷ rest) = Depends d u y × IsChain d (y ∷ rest)

-- In a design without a combinational loop a chain of bits has each bit once, so it is no longer than a list of bits among which all
-- of it stands.
abbrev pub ChainsAreShort : Type 0
ChainsAreShort =
    (d : Design) (bits chain : List PlacedBit) → ¬ HasLoop d → IsChain d chain → ((u : PlacedBit) → Contains chain u → Contains bits u)
    → length chain ≤ length bits
