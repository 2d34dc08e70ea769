use Rattle.ready_maps.proofs.Ready.{accepted_ready}
use Rattle.ready_maps.proofs.laws.accepted_maps_are_ready.Goals as goal

pub returns : goal.returns
returns c = accepted_ready c.texts_are_shapely.ensures c.accepted_maps_are_still.ensures c.states_and_invariants_do_not_depend_on_inputs.ensures.values
