use Rattle.map_texts.proofs.Emitted.{emitted_maps_are_read}
use Rattle.map_texts.proofs.laws.emitted_maps_are_read.Goals as goal

pub returns : goal.returns
returns c = emitted_maps_are_read
