use Rattle.std.proofs.Common.{ap}
use Rattle.v_syntax.specs.Source.{module_of}
use Rattle.v_places.specs.Views.{name_of, connected_to}
use Rattle.v_places.proofs.Rooms.{place_added}
use Rattle.v_places.proofs.queue.add_place.Goals as goal

pub returns : goal.returns
returns c =
    place_added _ _ _ _ c.in_ok-put_back.ensures
    (ap (λ os. record { of_module = module_of c.args.within.now; instance = name_of c.args.instance; parent = c.args.parent; connections = connected_to c.args.instance; constants = os }) {y = _} c.in_ok-constants.ensures.constants)
