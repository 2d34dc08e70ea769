use Rattle.place_kinds.proofs.Known.{places_are_placed, placed_are_numbered}
use Rattle.place_kinds.proofs.laws.places_are_placed.Goals as goal

pub returns : goal.returns
returns c = record { placing = places_are_placed; numbered = placed_are_numbered }
