use Rattle.v_fitting.proofs.Modules.{modules-narrow}
use Rattle.v_fitting.proofs.laws.narrow_modules.Goals as goal

pub returns : goal.returns
returns c = modules-narrow
