use Rattle.wb_laws.proofs.Outcomes.{one_simulation, is_a_run}
use Rattle.wb_laws.proofs.laws.a_simulation_is_one_run.Goals as goal

pub returns : goal.returns
returns c = record { one = one_simulation; run = is_a_run }
