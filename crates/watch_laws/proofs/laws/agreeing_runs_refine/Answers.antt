use Rattle.watch_laws.proofs.Refining.{agreeing_runs_refine}
use Rattle.watch_laws.proofs.laws.agreeing_runs_refine.Goals as goal

pub returns : goal.returns
returns c = agreeing_runs_refine
