use Rattle.soundness.proofs.Refined.{invariants_kept}
use Rattle.soundness.proofs.laws.obligations_keep_invariants.Goals as goal

pub returns : goal.returns
returns c = invariants_kept
