use Rattle.flat_rules.proofs.Placed.{objects_are_in_bounds}
use Rattle.flat_rules.proofs.laws.objects_of_sound_modules_are_in_bounds.Goals as goal

pub returns : goal.returns
returns c = objects_are_in_bounds
