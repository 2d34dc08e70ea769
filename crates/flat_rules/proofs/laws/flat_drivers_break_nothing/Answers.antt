use Rattle.flat_rules.proofs.Drivers.{flat_drivers_break_nothing}
use Rattle.flat_rules.proofs.laws.flat_drivers_break_nothing.Goals as goal

pub returns : goal.returns
returns c = flat_drivers_break_nothing
