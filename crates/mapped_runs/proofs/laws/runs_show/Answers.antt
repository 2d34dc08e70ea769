use Rattle.mapped_runs.proofs.Facts.{runs_show}
use Rattle.mapped_runs.proofs.laws.runs_show.Goals as goal

pub returns : goal.returns
returns c = runs_show
