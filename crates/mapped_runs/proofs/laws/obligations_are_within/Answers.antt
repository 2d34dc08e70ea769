use Rattle.mapped_runs.proofs.Within.{obligations_within}
use Rattle.mapped_runs.proofs.laws.obligations_are_within.Goals as goal

pub returns : goal.returns
returns c = obligations_within
