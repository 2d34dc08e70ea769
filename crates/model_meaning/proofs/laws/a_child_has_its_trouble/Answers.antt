use Rattle.model_meaning.proofs.WorkedChild.{still_valid, stuck_at_third}
use Rattle.model_meaning.proofs.laws.a_child_has_its_trouble.Goals as goal

pub returns : goal.returns
returns c = record { long = still_valid; stopped = stuck_at_third }
