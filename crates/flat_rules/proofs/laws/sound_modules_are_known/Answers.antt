use Rattle.flat_rules.proofs.Placed.{modules_are_known}
use Rattle.flat_rules.proofs.laws.sound_modules_are_known.Goals as goal

pub returns : goal.returns
returns c = modules_are_known
