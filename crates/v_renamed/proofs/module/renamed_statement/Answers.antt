use Rattle.v_renamed.specs.Copies.{statement_at}
use Rattle.v_renamed.proofs.module.renamed_statement.Goals as goal

pub returns : goal.returns
unfolding statement_at
returns c = c.copy_boxed_statement.ensures
