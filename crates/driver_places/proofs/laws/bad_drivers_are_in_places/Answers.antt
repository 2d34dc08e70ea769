use Rattle.driver_places.proofs.Two.{two_drivers_are_two_sets, bad_drivers_are_in_places}
use Rattle.driver_places.proofs.laws.bad_drivers_are_in_places.Goals as goal

pub returns : goal.returns
returns c = record { two = two_drivers_are_two_sets; places = bad_drivers_are_in_places }
