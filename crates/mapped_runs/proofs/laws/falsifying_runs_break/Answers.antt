use Rattle.mapped_runs.proofs.Breaking.{falsifying_breaks}
use Rattle.mapped_runs.proofs.laws.falsifying_runs_break.Goals as goal

pub returns : goal.returns
returns c = falsifying_breaks
