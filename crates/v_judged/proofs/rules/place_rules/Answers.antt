use Rattle.std.proofs.Common.{[], refl}
use Rattle.v_places.specs.Places.{placed_by}
use Rattle.v_judged.specs.Spots.{spot_in}
use Rattle.v_judged.proofs.rules.place_rules.Goals as goal

pub returns : goal.returns
returns c = λ source i. c.in_ok-broken.ensures source (placed_by [] (spot_in c.args.one.now)) i refl refl
