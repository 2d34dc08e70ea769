use Rattle.map_texts.proofs.Standing.{emitted_maps_stand}
use Rattle.map_texts.proofs.laws.emitted_maps_stand.Goals as goal

pub returns : goal.returns
returns c = emitted_maps_stand
