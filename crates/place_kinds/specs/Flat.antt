-- The rules on bits without drivers and on loops, judged on a design in one scope, whatever its names are called there.
use Rattle.std.specs.Prelude.{◌≡◌, ◌↔◌, List, slice_get, Some}
use Rattle.verilog_trees.specs.Syntax.{Item}
use Rattle.verilog_meaning.specs.Expression.{Scope}
use Rattle.verilog_meaning.specs.Settled.{Design}
use Rattle.verilog_designs.specs.Drivers.{HasUndriven}
use Rattle.verilog_designs.specs.Dependence.{HasLoop}
use Rattle.v_value.specs.Narrow.{HasNarrowObjects}
use Rattle.v_scopes.specs.declared.table.ModuleScope.{ModuleScope}
use Rattle.v_assigned.specs.Names.{HasNamesOf}
use Rattle.v_undriven.specs.Undriven.{HasUndrivenBit}
use Rattle.v_loops.specs.OneModule.{HasLoopIn}
use Rattle.v_places.specs.Below.{Spot}
use Rattle.flat_designs.specs.Flat.{Naming}
use Rattle.v_flat.specs.Whole.{IsPlainOnTop, IsFlatDesign}
use Rattle.flat_fitting.specs.Fitting.{AreFitForAll}
use Rattle.place_kinds.specs.Known.{HasSoundPlaces}

-- The one scope fits words, and the items may be asked for all that follows.
pub record FlatIsReady (s : Scope) (items : List Item) : Type 0 where
  pub objects : HasNarrowObjects s
  pub fit : AreFitForAll s items

abbrev pub FlatDesignsAreReady : Type 0
FlatDesignsAreReady =
    (d : Design) (called : Naming) (spots : List Spot) (s : Scope) (items : List Item) → HasSoundPlaces d spots → IsFlatDesign d called s items → FlatIsReady s items

-- The design leaves a bit without a driver exactly where its items in one scope do, where the table has the names of its top, which are called
-- there what they are.
abbrev pub UndrivenBitsAreFlat : Type 0
UndrivenBitsAreFlat =
    (d : Design) (called : Naming) (spots : List Spot) (s : Scope) (items : List Item) (names : ModuleScope) (top : Spot) → HasSoundPlaces d spots
    → IsPlainOnTop called → IsFlatDesign d called s items → slice_get spots 0 ≡ Some top → HasNamesOf names top.of_module → HasUndriven d ↔ HasUndrivenBit s names d.clock items

-- It has a combinational loop exactly where these have one.
abbrev pub LoopsAreFlat : Type 0
LoopsAreFlat =
    (d : Design) (called : Naming) (spots : List Spot) (s : Scope) (items : List Item) → HasSoundPlaces d spots → IsFlatDesign d called s items
    → HasLoop d ↔ HasLoopIn s items
