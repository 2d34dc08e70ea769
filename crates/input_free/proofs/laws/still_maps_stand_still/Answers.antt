use Rattle.input_free.proofs.Still.{stands_still}
use Rattle.input_free.proofs.laws.still_maps_stand_still.Goals as goal

pub returns : goal.returns
returns c = stands_still
