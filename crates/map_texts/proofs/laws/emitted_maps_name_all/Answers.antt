use Rattle.map_texts.proofs.Among.{all_named}
use Rattle.map_texts.proofs.laws.emitted_maps_name_all.Goals as goal

pub returns : goal.returns
returns c = all_named
