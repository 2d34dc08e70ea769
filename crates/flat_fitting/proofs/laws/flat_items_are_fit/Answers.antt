use Rattle.flat_fitting.proofs.Fitting.{flat_items_are_fit}
use Rattle.flat_fitting.proofs.laws.flat_items_are_fit.Goals as goal

pub returns : goal.returns
returns c = flat_items_are_fit
