use Rattle.wb_laws.proofs.SomeOutcome.{a_simulation}
use Rattle.wb_laws.proofs.laws.a_script_has_a_simulation.Goals as goal

pub returns : goal.returns
returns c = a_simulation
