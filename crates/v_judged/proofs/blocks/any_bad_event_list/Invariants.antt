use Rattle.std.proofs.Common.{drop}
use Rattle.std.specs.Prelude.{◌↔◌}
use Rattle.v_places.specs.Views.{spots_of}
use Rattle.v_clocks.specs.Views.{sets_of}
use Rattle.place_kinds.specs.Places.{SomeWith, HasBadEventListAt}
use Rattle.v_judged.proofs.blocks.any_bad_event_list.Given as goal

abbrev pub invariant-loop-number : goal.invariant-loop-number
invariant-loop-number l =
    SomeWith HasBadEventListAt (sets_of l.nets) (spots_of l.places) ↔ SomeWith HasBadEventListAt (sets_of (drop l.number l.nets)) (spots_of (drop l.number l.places))
