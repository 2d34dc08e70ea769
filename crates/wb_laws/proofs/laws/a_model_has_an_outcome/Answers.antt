use Rattle.wb_laws.proofs.SomeOutcome.{an_outcome}
use Rattle.wb_laws.proofs.laws.a_model_has_an_outcome.Goals as goal

pub returns : goal.returns
returns c = an_outcome
