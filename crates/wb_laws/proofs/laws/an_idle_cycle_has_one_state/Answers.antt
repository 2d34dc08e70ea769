use Rattle.wb_laws.proofs.Sequence.{idle_state}
use Rattle.wb_laws.proofs.laws.an_idle_cycle_has_one_state.Goals as goal

pub returns : goal.returns
returns c = idle_state
