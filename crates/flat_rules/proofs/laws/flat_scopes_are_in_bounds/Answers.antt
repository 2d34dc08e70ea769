use Rattle.flat_rules.proofs.Drivers.{flat_objects_are_in_bounds, flat_scopes_are_narrow}
use Rattle.flat_rules.proofs.laws.flat_scopes_are_in_bounds.Goals as goal

pub returns : goal.returns
returns c = record { objects = flat_objects_are_in_bounds; narrow = flat_scopes_are_narrow }
