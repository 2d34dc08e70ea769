use Rattle.v_places.specs.Views.{spot_of}
use Rattle.v_clocks.proofs.Ends.{none_connected}
use Rattle.v_clocks.proofs.data.in_connections.Goals as goal

pub returns-in-None : goal.returns-in-None
returns-in-None c = λ source i f. none_connected c.args.nets.now (spot_of c.args.place.now) c.in-None.ensures.lookup.0
