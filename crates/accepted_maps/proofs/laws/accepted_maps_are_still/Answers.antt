use Rattle.accepted_maps.proofs.Still.{accepted_still}
use Rattle.accepted_maps.proofs.laws.accepted_maps_are_still.Goals as goal

pub returns : goal.returns
returns c = accepted_still
