use Rattle.place_kinds.proofs.Drivers.{lists_are_all_driven, driven_places_are_ready, bad_drivers_are_at_places, bad_names_are_found}
use Rattle.place_kinds.proofs.laws.bad_drivers_are_at_places.Goals as goal

pub returns : goal.returns
returns c = record { lists = lists_are_all_driven; ready = driven_places_are_ready; drivers = bad_drivers_are_at_places; names = bad_names_are_found }
