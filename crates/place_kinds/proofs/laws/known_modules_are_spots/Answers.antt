use Rattle.place_kinds.proofs.Known.{known_modules_are_spots}
use Rattle.place_kinds.proofs.laws.known_modules_are_spots.Goals as goal

pub returns : goal.returns
returns c = known_modules_are_spots
