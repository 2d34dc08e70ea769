use Rattle.watched_runs.proofs.Refining.{no_disagreement}
use Rattle.watched_runs.proofs.laws.refining_runs_do_not_disagree.Goals as goal

pub returns : goal.returns
returns c = no_disagreement
