use Rattle.v_fitting.proofs.Modules.{modules-runnable}
use Rattle.v_fitting.proofs.laws.runnable_modules.Goals as goal

pub returns : goal.returns
returns c = λ source p none once h. modules-runnable source p none h once
