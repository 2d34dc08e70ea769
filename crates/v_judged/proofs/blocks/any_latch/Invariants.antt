use Rattle.std.proofs.Common.{drop}
use Rattle.std.specs.Prelude.{◌↔◌}
use Rattle.place_kinds.specs.Places.{SomeSpot, HasLatchAt}
use Rattle.v_judged.specs.Spots.{spots_in}
use Rattle.v_judged.proofs.blocks.any_latch.Given as goal

abbrev pub invariant-loop-one : goal.invariant-loop-one
invariant-loop-one l = SomeSpot HasLatchAt (spots_in l.scopes) ↔ SomeSpot HasLatchAt (spots_in (drop l.one-index l.scopes))
