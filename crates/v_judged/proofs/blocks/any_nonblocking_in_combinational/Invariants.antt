use Rattle.std.proofs.Common.{◌≡◌, drop}
use Rattle.std.specs.List.{list_any}
use Rattle.v_places.specs.Views.{spots_of}
use Rattle.place_kinds.specs.Places.{has_nonblocking_in_combinational}
use Rattle.v_judged.proofs.blocks.any_nonblocking_in_combinational.Given as goal

abbrev pub invariant-loop-place : goal.invariant-loop-place
invariant-loop-place l = list_any has_nonblocking_in_combinational (spots_of l.places) ≡ list_any has_nonblocking_in_combinational (spots_of (drop l.place-index l.places))
