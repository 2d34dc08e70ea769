-- The rules on blocks, judged place by place.
use Rattle.std.specs.Prelude.{◌≡◌, ◌↔◌, ℕ, Bool, List, length, slice_get, Some, IsTrue}
use Rattle.std.specs.List.{list_any}
use Rattle.wb_values.specs.Value.{Name}
use Rattle.verilog_meaning.specs.Hierarchy.{PathStep, Placed}
use Rattle.verilog_meaning.specs.Settled.{Design}
use Rattle.verilog_designs.specs.Clocks.{IsClockNet}
use Rattle.verilog_designs.specs.Paths.{HasBadEventList, HasBlockingInClocked, HasNonblockingInComb, HasLatch}
use Rattle.v_places.specs.Below.{Spot}
use Rattle.v_places.specs.Places.{IsPlaceAt}
use Rattle.place_kinds.specs.Places.{SomeSpot, SomeWith, AreReadySpots, HasBadEventListAt, HasLatchAt, has_blocking_in_clocked, has_nonblocking_in_combinational}
use Rattle.place_kinds.specs.Known.{HasSoundPlaces}

-- Blocks may be looked at in each of the modules.
abbrev pub PlacesAreReady : Type 0
PlacesAreReady = (d : Design) (spots : List Spot) → HasSoundPlaces d spots → AreReadySpots spots

-- There is a test of names for each module of the list, and it tells the clock nets of that module where it stands.
pub record TellClockNets (d : Design) (spots : List Spot) (tests : List (Name → Bool)) : Type 0 where
  pub as_many : length tests ≡ length spots
  pub each : (k : ℕ) (path : List PathStep) (p : Placed) (is_clock_net : Name → Bool) → IsPlaceAt spots k path p → slice_get tests k ≡ Some is_clock_net
      → (n : Name) → IsTrue (is_clock_net n) ↔ IsClockNet d p n

-- Some block of the design has a list of events that it may not have exactly where one of some place has.
abbrev pub EventListsAreAtPlaces : Type 0
EventListsAreAtPlaces =
    (d : Design) (spots : List Spot) (tests : List (Name → Bool)) → HasSoundPlaces d spots → TellClockNets d spots tests
    → SomeWith HasBadEventListAt tests spots ↔ HasBadEventList d

-- Some clocked block has a blocking assignment exactly where one of some place has, and so it is with nonblocking ones in other blocks.
abbrev pub BlockingIsAtPlaces : Type 0
BlockingIsAtPlaces = (d : Design) (spots : List Spot) → HasSoundPlaces d spots → IsTrue (list_any has_blocking_in_clocked spots) ↔ HasBlockingInClocked d

abbrev pub NonblockingIsAtPlaces : Type 0
NonblockingIsAtPlaces =
    (d : Design) (spots : List Spot) → HasSoundPlaces d spots → IsTrue (list_any has_nonblocking_in_combinational spots) ↔ HasNonblockingInComb d

-- There is a latch exactly where some place has one.
abbrev pub LatchesAreAtPlaces : Type 0
LatchesAreAtPlaces = (d : Design) (spots : List Spot) → HasSoundPlaces d spots → SomeSpot HasLatchAt spots ↔ HasLatch d
