-- Which expressions depend on inputs of the design's top.
use Rattle.std.specs.Prelude.{◌≡◌, ◌++◌, [], Contains, Some, IsTrue}
use Rattle.verilog_trees.specs.Syntax.{Expression, input}
use Rattle.verilog_meaning.specs.Hierarchy.{Placed, dotted}
use Rattle.verilog_meaning.specs.Settled.{Design, IsPlacedIn, at_path, HasPort}
use Rattle.verilog_designs.specs.Reads.{reads}
use Rattle.verilog_designs.specs.Dependence.{Bit, PlacedBit, bit_of, DependsFar}
use Rattle.map_files.specs.Written.{Text}
use Rattle.map_rules.specs.Case.{MapCase, case_design, value_texts}
use Rattle.map_rules.specs.Expressions.{ReadsAs, design_scope}

-- The bit is one of an input port of the top.
pub record IsInputBit (d : Design) (u : PlacedBit) : Type 0 where
  pub top : Placed
  pub is_top : at_path d [] ≡ Some top
  pub at_top : u.path ≡ []
  pub is_port : HasPort top.of_module u.bit.of_name input

-- It is one, or depends on one. Conditions are never folded: `go & 0` depends on go. Registers depend on nothing.
pub data ComesFromInput (d : Design) (u : PlacedBit) : Type 0 where
  itself : IsInputBit d u → ComesFromInput d u
  through : (y : PlacedBit) → DependsFar d u y → IsInputBit d y → ComesFromInput d u

-- The expression reads a bit that comes from an input.
pub record UsesInput (d : Design) (e : Expression) : Type 0 where
  pub within : Placed
  pub bit : Bit
  pub is_placed : IsPlacedIn d within
  pub is_read : IsTrue (reads (design_scope d) e (dotted within.path bit.of_name) bit.word bit.place)
  pub from_input : ComesFromInput d (bit_of within bit)

-- MapUsesInput: the expression of a state that is no memory, or an invariant, depends on an input port of the top.
pub record HasMapInput (c : MapCase) : Type 0 where
  pub text : Text
  pub tree : Expression
  pub stands : Contains (value_texts c.model c.written.states ++ c.written.invariants) text
  pub is_read : ReadsAs text tree
  pub uses_input : UsesInput (case_design c) tree
