use Rattle.watched_runs.proofs.Answers.{one_answer}
use Rattle.watched_runs.proofs.laws.runs_have_one_answer.Goals as goal

pub returns : goal.returns
returns c = one_answer
