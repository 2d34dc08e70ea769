use Rattle.emitted_designs.proofs.Child.{child_runs}
use Rattle.emitted_designs.proofs.laws.a_child_runs.Goals as goal

pub returns : goal.returns
returns c = child_runs
