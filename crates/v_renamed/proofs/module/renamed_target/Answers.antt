use Rattle.v_renamed.specs.Copies.{target_at}
use Rattle.v_renamed.proofs.module.renamed_target.Goals as goal

pub returns : goal.returns
unfolding target_at
returns c = c.copy_target.ensures
