use Rattle.wb_laws.proofs.Sequence.{idle_count}
use Rattle.wb_laws.proofs.laws.an_idle_cycle_has_one_count.Goals as goal

pub returns : goal.returns
returns c = idle_count
