-- What the written map of an emitted design stands for.
use Rattle.model_meaning.specs.Model.{Model}
use Rattle.model_meaning.specs.Invariant.{IsModel}
use Rattle.map_rules.specs.Accepted.{StandsForMap}
use Rattle.emitted_designs.specs.Map.{emitted_map, written_map}

-- The written map of an emitted design stands for the design's map.
abbrev pub EmittedMapsStand : Type 0
EmittedMapsStand = (m : Model) → IsModel m → StandsForMap m (written_map m) (emitted_map m)
