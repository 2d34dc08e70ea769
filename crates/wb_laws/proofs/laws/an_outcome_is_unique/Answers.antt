use Rattle.wb_laws.proofs.Outcomes.{one_outcome}
use Rattle.wb_laws.proofs.laws.an_outcome_is_unique.Goals as goal

pub returns : goal.returns
returns c = one_outcome
