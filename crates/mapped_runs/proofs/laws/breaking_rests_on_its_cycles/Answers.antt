use Rattle.mapped_runs.proofs.Breaking.{breaking_rests}
use Rattle.mapped_runs.proofs.laws.breaking_rests_on_its_cycles.Goals as goal

pub returns : goal.returns
returns c = breaking_rests
