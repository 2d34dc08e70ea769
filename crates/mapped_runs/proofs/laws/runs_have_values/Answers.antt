use Rattle.mapped_runs.proofs.ValuesOfRuns.{runs_have_values}
use Rattle.mapped_runs.proofs.laws.runs_have_values.Goals as goal

pub returns : goal.returns
returns c = runs_have_values
