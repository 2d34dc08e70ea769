use Rattle.std.proofs.Common.{drop}
use Rattle.std.specs.Prelude.{◌↔◌}
use Rattle.v_places.specs.Views.{spots_of}
use Rattle.v_flat.specs.Views.{lists_of}
use Rattle.place_kinds.specs.Places.{SomeWith, HasBadDriverAt}
use Rattle.v_judged.proofs.drivers.any_bad_driver.Given as goal

abbrev pub invariant-loop-number : goal.invariant-loop-number
invariant-loop-number l =
    SomeWith HasBadDriverAt (lists_of l.lists) (spots_of l.places)
    ↔ SomeWith HasBadDriverAt (lists_of (drop l.number l.lists)) (spots_of (drop l.number l.places))
