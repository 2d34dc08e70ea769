use Rattle.mapped_runs.proofs.Decides.{values_decide}
use Rattle.mapped_runs.proofs.laws.values_decide.Goals as goal

pub returns : goal.returns
returns c = values_decide
