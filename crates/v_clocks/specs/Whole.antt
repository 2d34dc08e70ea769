-- What is promised of the clock nets of a design.
use Rattle.std.specs.Prelude.{◌≡◌, ◌↔◌, ℕ, Bool, List, length, slice_get, Some, IsTrue}
use Rattle.wb_values.specs.Value.{Name}
use Rattle.verilog_trees.specs.Syntax.{Module, Source}
use Rattle.verilog_meaning.specs.Hierarchy.{PathStep, Placed, module_named}
use Rattle.verilog_meaning.specs.Settled.{Design, IsPlacedIn}
use Rattle.verilog_designs.specs.Known.{known_at}
use Rattle.verilog_designs.specs.Clocks.{IsClockNet}
use Rattle.verilog_designs.specs.Accepted as accepted
use Rattle.verilog_designs.specs.Accepted.{Breaks}
use Rattle.v_places.specs.Below.{Spot}
use Rattle.v_places.specs.Places.{IsPlaceAt, ArePlaces}

-- The list has the modules that stand in the design. No name is undeclared or declared twice, and each module is known as it stands there,
-- with the values of its parameters.
pub record AreKnownPlaces (d : Design) (spots : List Spot) : Type 0 where
  pub no_undeclared : ¬ Breaks d accepted.undeclared
  pub no_duplicate : ¬ Breaks d accepted.duplicate_name
  pub places : ArePlaces d spots
  pub known : (p : Placed) → IsPlacedIn d p → known_at d.source d.top p.path ≡ Some p

-- the module is the first of its name in the source
abbrev pub IsFirstOf : Source → Module → Type 0
IsFirstOf source m = module_named source m.module_name ≡ Some m

-- each of these modules is
abbrev pub AreFirst : Source → List Spot → Type 0
AreFirst source spots = (k : ℕ) (x : Spot) → slice_get spots k ≡ Some x → IsFirstOf source x.of_module

-- There is a set for each module of the list, and it has the clock nets of that module where it stands.
pub record AreClockNets (d : Design) (spots : List Spot) (nets : List (Name → Bool)) : Type 0 where
  pub as_many : length nets ≡ length spots
  pub each : (k : ℕ) (path : List PathStep) (p : Placed) (own : Name → Bool) → IsPlaceAt spots k path p → slice_get nets k ≡ Some own
      → (n : Name) → IsTrue (own n) ↔ IsClockNet d p n
