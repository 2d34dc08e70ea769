-- Bits whose chains of dependence come to an end: which they are, and what they say of loops.
use Rattle.std.specs.Prelude.{◌≡◌, ◌<◌, List, length, Contains, Some, IsTrue}
use Rattle.wb_values.specs.Value.{Name}
use Rattle.verilog_trees.specs.Syntax.{Expression, Target, Statement, input, output}
use Rattle.verilog_meaning.specs.Register.{combinational_blocks, may_reach, may_assign}
use Rattle.verilog_meaning.specs.Hierarchy.{Placed, placed_scope}
use Rattle.verilog_meaning.specs.Settled.{Design, IsPlacedIn, assignments, as_target, whole_of, whole_name, Connection, port_connections, IsConnectedTo}
use Rattle.verilog_designs.specs.Dependence.{Bit, IsBitIn, IsGivenBy, at_start, After, PlacedBit, bit_of, Depends, HasLoop}
use Rattle.verilog_unique.specs.Agreement.{IsBitDeclared}
use Rattle.verilog_exists.specs.Exists.{IsShapely}
use Rattle.verilog_exists.specs.Loops.{IsAcceptedButForLoops}

-- Each chain of bits, of which each depends on the next, comes to an end from this one on.
pub data IsGrounded (d : Design) : PlacedBit → Type 0 where
  grounded : (u : PlacedBit) → ((y : PlacedBit) → Depends d u y → IsGrounded d y) → IsGrounded d u

-- ---- loops

-- Where each bit that depends on another one is grounded, there is no loop.
abbrev pub GroundedBitsHaveNoLoop : Type 0
GroundedBitsHaveNoLoop = (d : Design) → ((u y : PlacedBit) → Depends d u y → IsGrounded d u) → ¬ HasLoop d

-- Where each of some bits depends on one of them, there is a loop.
abbrev pub BitsThatRestOnThemselvesLoop : Type 0
BitsThatRestOnThemselvesLoop =
    (d : Design) (bits : List PlacedBit) → 0 < length bits
    → ((u : PlacedBit) → Contains bits u → (y : PlacedBit) × Contains bits y × Depends d u y) → HasLoop d

-- ---- one driver

-- The bit is one of the module.
abbrev pub IsBitThere : Design → Placed → Bit → Type 0
IsBitThere d p u = IsPlacedIn d p × IsBitIn p u

-- Some bit of the module that is so is the placed bit.
pub record IsOneOf (p : Placed) (IsSo : Bit → Type 0) (y : PlacedBit) : Type 0 where
  pub bit : Bit
  pub is_so : IsSo bit
  pub is_it : bit_of p bit ≡ y

-- A bit has one driver at most: what it depends on is what that gives it. An assignment,
abbrev pub AssignedBitsDependByIt : Type 0
AssignedBitsDependByIt =
    (d : Design) (p : Placed) (a : Target × Expression) (u : Bit) (y : PlacedBit)
    → IsAcceptedButForLoops d → IsShapely d → IsBitThere d p u → Contains (assignments p.of_module.items) a
    → IsTrue (may_reach (placed_scope p) a.0 u.of_name u.word u.place) → Depends d (bit_of p u) y
    → IsOneOf p (IsGivenBy (placed_scope p) a.0 (placed_scope p) a.1 u) y

-- a combinational block,
abbrev pub BlockBitsDependByIt : Type 0
BlockBitsDependByIt =
    (d : Design) (p : Placed) (x : Statement) (u : Bit) (y : PlacedBit)
    → IsAcceptedButForLoops d → IsShapely d → IsBitThere d p u → Contains (combinational_blocks p.of_module.items) x
    → IsTrue (may_assign (placed_scope p) x u.of_name u.word u.place) → Depends d (bit_of p u) y
    → IsOneOf p (After (placed_scope p) at_start x u) y

-- what is connected to an input,
abbrev pub InputBitsDependByIt : Type 0
InputBitsDependByIt =
    (d : Design) (p below : Placed) (c : Connection) (n : Name) (u : Bit) (y : PlacedBit)
    → IsAcceptedButForLoops d → IsShapely d → IsPlacedIn d p → IsBitThere d below u → Contains (port_connections p.of_module.items) c
    → IsConnectedTo d p c below n input → IsTrue (may_reach (placed_scope below) (whole_of n) u.of_name u.word u.place) → Depends d (bit_of below u) y
    → IsOneOf p (IsGivenBy (placed_scope below) (whole_of n) (placed_scope p) c.expression u) y

-- an output of an instance.
abbrev pub OutputBitsDependByIt : Type 0
OutputBitsDependByIt =
    (d : Design) (p below : Placed) (c : Connection) (n : Name) (t : Target) (u : Bit) (y : PlacedBit)
    → IsAcceptedButForLoops d → IsShapely d → IsBitThere d p u → Contains (port_connections p.of_module.items) c
    → IsConnectedTo d p c below n output → as_target c.expression ≡ Some t → IsTrue (may_reach (placed_scope p) t u.of_name u.word u.place)
    → Depends d (bit_of p u) y → IsOneOf below (IsGivenBy (placed_scope p) t (placed_scope below) (whole_name n) u) y

-- What a bit depends on is a bit of a declared name of a module that stands in the design.
pub record IsDeclaredBit (d : Design) (y : PlacedBit) : Type 0 where
  pub place : Placed
  pub bit : Bit
  pub is_placed : IsPlacedIn d place
  pub is_declared : IsBitDeclared place bit
  pub is_it : bit_of place bit ≡ y

abbrev pub DependenceStaysInside : Type 0
DependenceStaysInside =
    (d : Design) (p : Placed) (u : Bit) (y : PlacedBit)
    → IsAcceptedButForLoops d → IsPlacedIn d p → IsBitDeclared p u → Depends d (bit_of p u) y → IsDeclaredBit d y

-- ---- what grounds a bit

-- So a driven bit is grounded where all bits are on which it depends by its driver: an assignment,
abbrev pub AssignedBitsAreGrounded : Type 0
AssignedBitsAreGrounded =
    (d : Design) (p : Placed) (a : Target × Expression) (u : Bit)
    → IsAcceptedButForLoops d → IsShapely d → IsBitThere d p u → Contains (assignments p.of_module.items) a
    → IsTrue (may_reach (placed_scope p) a.0 u.of_name u.word u.place)
    → ((y : Bit) → IsGivenBy (placed_scope p) a.0 (placed_scope p) a.1 u y → IsGrounded d (bit_of p y)) → IsGrounded d (bit_of p u)

-- a combinational block,
abbrev pub BlockBitsAreGrounded : Type 0
BlockBitsAreGrounded =
    (d : Design) (p : Placed) (x : Statement) (u : Bit)
    → IsAcceptedButForLoops d → IsShapely d → IsBitThere d p u → Contains (combinational_blocks p.of_module.items) x
    → IsTrue (may_assign (placed_scope p) x u.of_name u.word u.place)
    → ((y : Bit) → After (placed_scope p) at_start x u y → IsGrounded d (bit_of p y)) → IsGrounded d (bit_of p u)

-- what is connected to an input,
abbrev pub InputBitsAreGrounded : Type 0
InputBitsAreGrounded =
    (d : Design) (p below : Placed) (c : Connection) (n : Name) (u : Bit)
    → IsAcceptedButForLoops d → IsShapely d → IsPlacedIn d p → IsBitThere d below u → Contains (port_connections p.of_module.items) c
    → IsConnectedTo d p c below n input → IsTrue (may_reach (placed_scope below) (whole_of n) u.of_name u.word u.place)
    → ((y : Bit) → IsGivenBy (placed_scope below) (whole_of n) (placed_scope p) c.expression u y → IsGrounded d (bit_of p y)) → IsGrounded d (bit_of below u)

-- and an output of an instance.
abbrev pub OutputBitsAreGrounded : Type 0
OutputBitsAreGrounded =
    (d : Design) (p below : Placed) (c : Connection) (n : Name) (t : Target) (u : Bit)
    → IsAcceptedButForLoops d → IsShapely d → IsBitThere d p u → Contains (port_connections p.of_module.items) c
    → IsConnectedTo d p c below n output → as_target c.expression ≡ Some t → IsTrue (may_reach (placed_scope p) t u.of_name u.word u.place)
    → ((y : Bit) → IsGivenBy (placed_scope p) t (placed_scope below) (whole_name n) u y → IsGrounded d (bit_of below y)) → IsGrounded d (bit_of p u)

-- A bit that none of these drives depends on nothing, and is grounded.
pub record IsUndriven (d : Design) (p : Placed) (u : Bit) : Type 0 where
  pub by_assignment : (a : Target × Expression) → Contains (assignments p.of_module.items) a
      → ¬ IsTrue (may_reach (placed_scope p) a.0 u.of_name u.word u.place)
  pub by_block : (x : Statement) → Contains (combinational_blocks p.of_module.items) x
      → ¬ IsTrue (may_assign (placed_scope p) x u.of_name u.word u.place)
  pub by_input : (around : Placed) (c : Connection) (n : Name) → IsPlacedIn d around → Contains (port_connections around.of_module.items) c
      → IsConnectedTo d around c p n input → ¬ IsTrue (may_reach (placed_scope p) (whole_of n) u.of_name u.word u.place)
  pub by_output : (c : Connection) (below : Placed) (n : Name) (t : Target) → Contains (port_connections p.of_module.items) c
      → IsConnectedTo d p c below n output → as_target c.expression ≡ Some t → ¬ IsTrue (may_reach (placed_scope p) t u.of_name u.word u.place)

abbrev pub UndrivenBitsAreGrounded : Type 0
UndrivenBitsAreGrounded = (d : Design) (p : Placed) (u : Bit) → IsPlacedIn d p → IsUndriven d p u → IsGrounded d (bit_of p u)
