-- Bits that come from inputs of a design, and expressions that use them, are told in one scope.
use Rattle.std.specs.Prelude.{◌≡◌, ◌↔◌, List, [], Contains, Some, IsTrue, false}
use Rattle.wb_values.specs.Value.{Name}
use Rattle.verilog_trees.specs.Syntax.{Expression, input, Item}
use Rattle.verilog_meaning.specs.Expression.{Scope, is_memory}
use Rattle.verilog_meaning.specs.Register.{clocked_blocks, combinational_blocks}
use Rattle.verilog_meaning.specs.Hierarchy.{Placed, placed_scope, dotted}
use Rattle.verilog_meaning.specs.Settled.{Design, IsPlacedIn, at_path, assignments, HasPort}
use Rattle.verilog_designs.specs.Reads.{BitSet, reads}
use Rattle.verilog_designs.specs.Dependence.{Bit, is_in, bit_of}
use Rattle.verilog_designs.specs.Accepted.{undeclared, Breaks}
use Rattle.verilog_designs.specs.Names.{names_in}
use Rattle.flat_designs.specs.Flat.{IsNameOf, Naming, IsNaming, IsFlat}
use Rattle.flat_designs.specs.Depending.{flat_bit}
use Rattle.map_rules.specs.Expressions.{design_scope}
use Rattle.map_rules.specs.Inputs.{ComesFromInput, UsesInput}
use Rattle.v_depend.specs.Resting.{IsThere}
use Rattle.v_reach.specs.Coming.{ComesFrom}
use Rattle.map_inputs.specs.Bits.{input_bits, OneIsMarked}

-- ---- the inputs

-- The name in the one scope is that of an input port of the top.
pub record IsInputUnder (d : Design) (f : Naming) (n : Name) : Type 0 where
  pub top : Placed
  pub port : Name
  pub is_top : at_path d [] ≡ Some top
  pub is_port : HasPort top.of_module port input
  pub is_new : f [] port ≡ n

-- No input port of the top is a memory.
abbrev pub InputsAreWords : Design → Type 0
InputsAreWords d = (top : Placed) (n : Name) → at_path d [] ≡ Some top → HasPort top.of_module n input → is_memory (placed_scope top n) ≡ false

-- The scope and the items are the design in one scope, and the names are those of the inputs of its top there.
pub record HasInputs (d : Design) (f : Naming) (s : Scope) (items : List Item) (names : List Name) : Type 0 where
  pub no_undeclared : ¬ Breaks d undeclared
  pub naming : IsNaming d f
  pub flat : IsFlat d f s (assignments items) (combinational_blocks items) (clocked_blocks items)
  pub words : InputsAreWords d
  pub are_inputs : (n : Name) → Contains names n ↔ IsInputUnder d f n

-- ---- bits

-- A bit of a module comes from an input exactly where the bit under its name in the one scope comes from one of these names.
abbrev pub BitsComeTheSame : Type 0
BitsComeTheSame =
    (d : Design) (f : Naming) (s : Scope) (items : List Item) (names : List Name) (p : Placed) (u : Bit) → HasInputs d f s items names
    → IsPlacedIn d p → IsNameOf p u.of_name → IsThere s (flat_bit f p u)
    → ComesFromInput d (bit_of p u) ↔ ComesFrom s items (input_bits s names) (flat_bit f p u)

-- ---- expressions

-- The name, as an expression of a map has it, is that of a module's name as it is written from the top, and means what that means.
pub record StandsFor (d : Design) (n : Name) : Type 0 where
  pub within : Placed
  pub own : Name
  pub is_placed : IsPlacedIn d within
  pub is_name : IsNameOf within own
  pub is_written : dotted within.path own ≡ n
  pub means : design_scope d n ≡ placed_scope within own

-- Each name that expressions of a map know is so.
abbrev pub KnownNamesStandForNames : Type 0
KnownNamesStandForNames = (d : Design) (n : Name) → IsTrue ((design_scope d n).is_declared) → StandsFor d n

-- Expressions of a map know the name; t says what it stands for, and g gives its name in the one scope.
pub record IsKnownAs (d : Design) (f : Naming) (t : Scope) (g : Name → Name) (n : Name) : Type 0 where
  pub is_declared : IsTrue ((design_scope d n).is_declared)
  pub says : t n ≡ design_scope d n
  pub is_new : (p : Placed) (own : Name) → IsPlacedIn d p → IsNameOf p own → dotted p.path own ≡ n → g n ≡ f p.path own

-- An expression uses an input exactly where it reads a bit that comes from one of these names.
abbrev pub ExpressionsUseTheSame : Type 0
ExpressionsUseTheSame =
    (d : Design) (f : Naming) (s t : Scope) (items : List Item) (names : List Name) (g : Name → Name) (e : Expression) (marked : BitSet)
    → HasInputs d f s items names → IsNaming d dotted → ((n : Name) → Contains (names_in e) n → IsKnownAs d f t g n)
    → ((u : Bit) → IsThere s u → IsTrue (is_in marked u) ↔ ComesFrom s items (input_bits s names) u)
    → UsesInput d e ↔ OneIsMarked g marked (reads t e)
