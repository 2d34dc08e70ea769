use Rattle.v_renamed.specs.Copies.{as_renamed}
use Rattle.v_renamed.proofs.module.renamed_as_target.Goals as goal

pub returns : goal.returns
unfolding as_renamed
returns c = c.copy_as_target.ensures
