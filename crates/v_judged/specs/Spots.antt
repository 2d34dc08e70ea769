-- The places of scopes.
use Rattle.std.specs.Prelude.{List, map}
use Rattle.v_places.specs.Below.{Spot}
use Rattle.v_places.specs.Views.{spot_of}
use Rattle.v_judged.specs.declared.place.PlaceScope.{PlaceScope}

abbrev pub spot_in : PlaceScope → Spot
spot_in x = spot_of x.place.now

abbrev pub spots_in : List PlaceScope → List Spot
spots_in xs = map spot_in xs
