-- A list of all modules that stand in a design, and what is so of one of them: of those with known constants, and of those with the values
-- of all their parameters, which are the same where the rules on names and constants hold.
use Rattle.std.specs.Prelude.{◌≡◌, ◌↔◌, ℕ, Bool, List, slice_get, Some, IsTrue}
use Rattle.std.specs.List.{list_any}
use Rattle.verilog_meaning.specs.Hierarchy.{PathStep, Placed, placed_scope}
use Rattle.verilog_meaning.specs.Settled.{Design, IsPlacedIn}
use Rattle.verilog_designs.specs.Accepted.{no_top, bad_port, Breaks, SomeModule}
use Rattle.verilog_exists.specs.Exists.{NamesHaveNoDots}
use Rattle.flat_rules.specs.Sound.{HasSoundModules}
use Rattle.v_places.specs.Below.{Spot}
use Rattle.v_places.specs.Places.{placed_by, IsPlaceAt, ArePlaces}
use Rattle.v_flat.specs.Whole.{IsPlacing}
use Rattle.place_kinds.specs.Places.{spot_scope}

-- The tree is one of a text, the top and its clock are there, none of the modules breaks a rule up to those on memories, and the list has
-- its places.
pub record HasSoundPlaces (d : Design) (spots : List Spot) : Type 0 where
  pub has_top : ¬ Breaks d no_top
  pub ports : ¬ Breaks d bad_port
  pub sound : HasSoundModules d
  pub no_dots : NamesHaveNoDots d.source
  pub places : ArePlaces d spots

-- ---- modules with known constants

-- Where a test rests on the module and its constants alone, and not on the path, some module of the design passes it exactly where some
-- module of the list does.
abbrev pub KnownModulesAreSpots : Type 0
KnownModulesAreSpots =
    (d : Design) (spots : List Spot) (is_so : Placed → Bool) (passes : Spot → Bool) → ArePlaces d spots
    → ((path : List PathStep) (x : Spot) → is_so (placed_by path x) ≡ passes x) → IsTrue (list_any passes spots) ↔ SomeModule d is_so

-- ---- modules with the values of all parameters

-- The list has the modules that stand in the design as they stand there.
abbrev pub PlacesArePlaced : Type 0
PlacesArePlaced = (d : Design) (spots : List Spot) → HasSoundModules d → NamesHaveNoDots d.source → ArePlaces d spots → IsPlacing d spots

-- Each module that stands in the design has a number in the list, what has a number stands in the design at its path, and the scope of its
-- known constants is its scope.
pub record AreNumbered (d : Design) (spots : List Spot) : Type 0 where
  pub number : (p : Placed) → IsPlacedIn d p → (k : ℕ) × IsPlaceAt spots k p.path p
  pub stands : (k : ℕ) (path : List PathStep) (p : Placed) → IsPlaceAt spots k path p → IsPlacedIn d p
  pub each : (k : ℕ) (x : Spot) → slice_get spots k ≡ Some x → (path : List PathStep) × IsPlaceAt spots k path (placed_by path x)
  pub scope : (k : ℕ) (path : List PathStep) (x : Spot) → IsPlaceAt spots k path (placed_by path x) → spot_scope x ≡ placed_scope (placed_by path x)

abbrev pub PlacedAreNumbered : Type 0
PlacedAreNumbered = (d : Design) (spots : List Spot) → HasSoundModules d → ArePlaces d spots → AreNumbered d spots
