use Rattle.mapped_runs.proofs.Decides.{commands_are_whole}
use Rattle.mapped_runs.proofs.laws.commands_are_whole.Goals as goal

pub returns : goal.returns
returns c = commands_are_whole
