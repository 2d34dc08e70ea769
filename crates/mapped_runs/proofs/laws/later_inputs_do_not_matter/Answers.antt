use Rattle.mapped_runs.proofs.Agreeing.{later_inputs}
use Rattle.mapped_runs.proofs.laws.later_inputs_do_not_matter.Goals as goal

pub returns : goal.returns
returns c = later_inputs
