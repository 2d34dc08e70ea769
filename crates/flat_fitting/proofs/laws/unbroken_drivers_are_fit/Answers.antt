use Rattle.flat_fitting.proofs.Fitting.{unbroken_drivers_are_fit}
use Rattle.flat_fitting.proofs.laws.unbroken_drivers_are_fit.Goals as goal

pub returns : goal.returns
returns c = unbroken_drivers_are_fit
