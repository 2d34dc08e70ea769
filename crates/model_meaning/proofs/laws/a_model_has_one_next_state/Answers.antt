use Rattle.model_meaning.proofs.OneResult.{one_next_state}
use Rattle.model_meaning.proofs.laws.a_model_has_one_next_state.Goals as goal

pub returns : goal.returns
returns c = one_next_state
