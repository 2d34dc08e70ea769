-- What is said of all places of a design.
use Rattle.std.specs.Prelude.{◌≡◌, ℕ, List, Option, Some, None}
use Rattle.std.specs.Borrow.{Bor}
use Rattle.std.specs.BTreeMap.{BTreeMap}
use Rattle.wb_values.specs.Value.{Name}
use Rattle.verilog_trees.specs.Syntax.{Source}
use Rattle.verilog_meaning.specs.Hierarchy.{module_named}
use Rattle.verilog_meaning.specs.Settled.{Design}
use Rattle.verilog_designs.specs.Accepted.{HasBadHierarchy}
use Rattle.v_syntax.specs.declared.module.Module.{Module}
use Rattle.v_places.specs.Below.{Spot}
use Rattle.v_places.specs.Places.{ArePlaces}
use Rattle.v_places.specs.Views.{module_in}

-- the table has the numbers of the modules of the source
abbrev pub Knows : List Module → BTreeMap (Bor (List ℕ)) ℕ → Source → Type 0
Knows ms t source = (n : Name) → module_in ms t n ≡ module_named source n

-- all places of a design, or none where its hierarchy is bad
abbrev pub AreAllPlaces : Design → Option (List Spot) → Type 0
AreAllPlaces d (Some spots) = ArePlaces d spots × ¬ HasBadHierarchy d
AreAllPlaces d None = HasBadHierarchy d
