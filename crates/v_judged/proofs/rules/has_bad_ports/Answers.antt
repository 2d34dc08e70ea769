use Rattle.std.proofs.Common.{[], refl}
use Rattle.v_places.specs.Places.{placed_by}
use Rattle.v_judged.specs.Spots.{spot_in}
use Rattle.v_judged.proofs.rules.has_bad_ports.Goals as goal

pub returns : goal.returns
returns c = λ source i. c.in_ok-bad.ensures source (placed_by [] (spot_in c.args.one.now)) i refl c.args.one.now.rows_so
