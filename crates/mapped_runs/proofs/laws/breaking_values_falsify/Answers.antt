use Rattle.mapped_runs.proofs.Decides.{breaking_falsifies}
use Rattle.mapped_runs.proofs.laws.breaking_values_falsify.Goals as goal

pub returns : goal.returns
returns c = breaking_falsifies
