use Rattle.soundness.proofs.Refined.{refined}
use Rattle.soundness.proofs.laws.obligations_give_refinement.Goals as goal

pub returns : goal.returns
returns c = refined
