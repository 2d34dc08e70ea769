-- Which bits of one scope depend on which, through a list of assignments and a list of blocks.
use Rattle.std.specs.Prelude.{◌↔◌, List, Contains, IsTrue}
use Rattle.verilog_trees.specs.Syntax.{Expression, Target, Statement}
use Rattle.verilog_meaning.specs.Expression.{Scope}
use Rattle.verilog_meaning.specs.Register.{is_bit_of, may_assign}
use Rattle.verilog_meaning.specs.Hierarchy.{Placed}
use Rattle.verilog_meaning.specs.Settled.{Design, IsPlacedIn}
use Rattle.verilog_designs.specs.Dependence.{Bit, IsGivenBy, at_start, After, bit_of, Depends, DependsFar, HasLoop}
use Rattle.verilog_designs.specs.Accepted.{undeclared, Breaks}
use Rattle.verilog_renamed.specs.Renamed.{renamed_bit}
use Rattle.flat_designs.specs.Flat.{IsNameOf, Naming, IsNaming, IsFlat}

-- a bit of a name, in range
abbrev pub IsBitAmong : Scope → Bit → Type 0
IsBitAmong s u = IsTrue (is_bit_of (s u.of_name) u.word u.place)

-- One bit depends on another by one assignment or one block.
pub data DependsFlat (s : Scope) (links : List (Target × Expression)) (blocks : List Statement) : Bit → Bit → Type 0 where
  by_link : (a : Target × Expression) (u y : Bit) → Contains links a → IsBitAmong s u → IsGivenBy s a.0 s a.1 u y → DependsFlat s links blocks u y
  by_block : (x : Statement) (u y : Bit) → Contains blocks x → IsBitAmong s u → IsTrue (may_assign s x u.of_name u.word u.place)
      → After s at_start x u y → DependsFlat s links blocks u y

-- by one or more steps
pub data DependsFlatFar (s : Scope) (links : List (Target × Expression)) (blocks : List Statement) : Bit → Bit → Type 0 where
  step : (u y : Bit) → DependsFlat s links blocks u y → DependsFlatFar s links blocks u y
  further : (u x y : Bit) → DependsFlat s links blocks u x → DependsFlatFar s links blocks x y → DependsFlatFar s links blocks u y

-- A bit depends on itself.
pub record HasFlatLoop (s : Scope) (links : List (Target × Expression)) (blocks : List Statement) : Type 0 where
  pub bit : Bit
  pub loops : DependsFlatFar s links blocks bit bit

-- ---- the law

-- The bit, of a name of the module, under its name in the one scope.
abbrev pub flat_bit : Naming → Placed → Bit → Bit
flat_bit f p u = renamed_bit (f p.path) u

-- Bits of modules depend on each other through the flat drivers as they do in the design, by one step and by more, and there is a loop
-- among them exactly where the design has one.
pub record DependsTheSame (d : Design) (f : Naming) (s : Scope) (links : List (Target × Expression)) (blocks : List Statement) : Type 0 where
  pub near : (p q : Placed) (u y : Bit) → IsPlacedIn d p → IsPlacedIn d q → IsNameOf p u.of_name → IsNameOf q y.of_name
      → Depends d (bit_of p u) (bit_of q y) ↔ DependsFlat s links blocks (flat_bit f p u) (flat_bit f q y)
  pub far : (p q : Placed) (u y : Bit) → IsPlacedIn d p → IsPlacedIn d q → IsNameOf p u.of_name → IsNameOf q y.of_name
      → DependsFar d (bit_of p u) (bit_of q y) ↔ DependsFlatFar s links blocks (flat_bit f p u) (flat_bit f q y)
  pub loops : HasLoop d ↔ HasFlatLoop s links blocks

abbrev pub BitsDependOnTheSame : Type 0
BitsDependOnTheSame =
    (d : Design) (f : Naming) (s : Scope) (links : List (Target × Expression)) (blocks clocked : List Statement) → ¬ Breaks d undeclared
    → IsNaming d f → IsFlat d f s links blocks clocked → DependsTheSame d f s links blocks
