use Rattle.v_renamed.specs.Copies.{renamed_at}
use Rattle.v_renamed.proofs.module.renamed_expression.Goals as goal

pub returns : goal.returns
unfolding renamed_at
returns c = c.copy.ensures
