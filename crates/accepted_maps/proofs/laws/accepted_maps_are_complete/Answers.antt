use Rattle.accepted_maps.proofs.Complete.{accepted_complete}
use Rattle.accepted_maps.proofs.laws.accepted_maps_are_complete.Goals as goal

pub returns : goal.returns
returns c = accepted_complete
