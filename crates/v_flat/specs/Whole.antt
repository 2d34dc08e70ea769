-- What is promised of a flat design that is made of a list of places.
use Rattle.std.specs.Prelude.{◌≡◌, ◌≢◌, ◌<◌, ◌++◌, ℕ, List, [], slice_get, Some}
use Rattle.wb_values.specs.Value.{Name}
use Rattle.verilog_trees.specs.Syntax.{by_order, Item}
use Rattle.verilog_meaning.specs.Expression.{Scope, undeclared}
use Rattle.verilog_meaning.specs.Register.{clocked_blocks, combinational_blocks}
use Rattle.verilog_meaning.specs.Hierarchy.{PathStep, Placed, placed_scope}
use Rattle.verilog_meaning.specs.Settled.{Design, IsPlacedIn, assignments}
use Rattle.verilog_designs.specs.Known.{known_scope}
use Rattle.verilog_designs.specs.Accepted as accepted
use Rattle.verilog_designs.specs.Accepted.{Breaks}
use Rattle.verilog_exists.specs.Exists.{NamesHaveNoDots}
use Rattle.flat_designs.specs.Flat.{IsNameOf, Naming, IsNaming, IsFlat}
use Rattle.flat_designs.specs.Edge.{AreThePlaced, AreInTextOrder}
use Rattle.v_places.specs.Below.{Spot}
use Rattle.v_places.specs.Places.{IsConnected}
use Rattle.v_flat.specs.Paths.{placed_of}
use Rattle.v_flat.specs.Entries.{SpotNames, names_of}

-- The list has the modules that stand in the design, each once, at its path and with the values of its parameters. Each but the top,
-- which is connected to nothing, has what is connected to its instance. No name is undeclared, is declared twice or has a dot; and the
-- scope of a module's known constants is its scope.
pub record IsPlacing (d : Design) (spots : List Spot) : Type 0 where
  pub no_undeclared : ¬ Breaks d accepted.undeclared
  pub no_duplicate : ¬ Breaks d accepted.duplicate_name
  pub no_dots : NamesHaveNoDots d.source
  pub placed : AreThePlaced d (placed_of spots)
  pub connected : (k : ℕ) (x : Spot) → 0 < k → slice_get spots k ≡ Some x → IsConnected spots x
  pub alone : (x : Spot) → slice_get spots 0 ≡ Some x → x.connections ≡ by_order []
  pub scopes : (p : Placed) (n : Name) → IsPlacedIn d p → known_scope p n ≡ placed_scope p n

-- The names of the modules of the list are those that a naming gives them: in each module what is called so begins with what stands before
-- its names.
pub record AreCalled (d : Design) (called : Naming) (spots : List Spot) (made : List SpotNames) : Type 0 where
  pub naming : IsNaming d called
  pub fronts : (path : List PathStep) (n : Name) → called path [] ++ n ≡ called path n
  pub names : made ≡ names_of called spots

-- The naming leaves the names of the top as they are.
abbrev pub IsPlainOnTop : Naming → Type 0
IsPlainOnTop called = (n : Name) → called [] n ≡ n

-- The scope and the items are the design in one scope, under a naming: its drivers, with the clocked blocks of each module in the order of
-- its text; and the scope knows no other names than those of the design.
pub record IsFlatDesign (d : Design) (called : Naming) (s : Scope) (items : List Item) : Type 0 where
  pub naming : IsNaming d called
  pub flat : IsFlat d called s (assignments items) (combinational_blocks items) (clocked_blocks items)
  pub in_order : AreInTextOrder d called (clocked_blocks items)
  pub no_others : (n : Name) → ((p : Placed) (m : Name) → IsPlacedIn d p → IsNameOf p m → called p.path m ≢ n) → s n ≡ undeclared
