use Rattle.design_cycles.proofs.Cycles.{has_cycles}
use Rattle.design_cycles.proofs.laws.an_accepted_design_has_cycles.Goals as goal

pub returns : goal.returns
returns c = has_cycles
