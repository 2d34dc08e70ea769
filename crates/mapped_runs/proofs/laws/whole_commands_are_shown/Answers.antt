use Rattle.mapped_runs.proofs.Commands.{whole_shown}
use Rattle.mapped_runs.proofs.laws.whole_commands_are_shown.Goals as goal

pub returns : goal.returns
returns c = whole_shown
