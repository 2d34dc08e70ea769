use Rattle.std.proofs.Common.{◌≡◌, drop}
use Rattle.std.specs.List.{list_any}
use Rattle.v_places.specs.Views.{spots_of}
use Rattle.place_kinds.specs.Places.{has_blocking_in_clocked}
use Rattle.v_judged.proofs.blocks.any_blocking_in_clocked.Given as goal

abbrev pub invariant-loop-place : goal.invariant-loop-place
invariant-loop-place l = list_any has_blocking_in_clocked (spots_of l.places) ≡ list_any has_blocking_in_clocked (spots_of (drop l.place-index l.places))
