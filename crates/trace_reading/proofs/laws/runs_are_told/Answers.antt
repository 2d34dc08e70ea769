use Rattle.trace_reading.proofs.Runs.{are_told}
use Rattle.trace_reading.proofs.laws.runs_are_told.Goals as goal

pub returns : goal.returns
returns c = are_told
