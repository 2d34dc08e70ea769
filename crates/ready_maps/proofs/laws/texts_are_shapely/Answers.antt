use Rattle.ready_maps.proofs.Texts.{texts_shapely}
use Rattle.ready_maps.proofs.laws.texts_are_shapely.Goals as goal

pub returns : goal.returns
returns c = texts_shapely
