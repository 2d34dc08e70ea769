use Rattle.mapped_runs.proofs.Commands.{command_rests}
use Rattle.mapped_runs.proofs.laws.command_rests_on_its_bound.Goals as goal

pub returns : goal.returns
returns c = command_rests
