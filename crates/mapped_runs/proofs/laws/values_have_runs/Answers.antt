use Rattle.mapped_runs.proofs.RunsOfValues.{values_have_runs}
use Rattle.mapped_runs.proofs.laws.values_have_runs.Goals as goal

pub returns : goal.returns
returns c = values_have_runs
