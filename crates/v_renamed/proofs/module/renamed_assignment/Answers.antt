use Rattle.v_renamed.specs.Copies.{renamed_at, target_at}
use Rattle.v_renamed.proofs.module.renamed_assignment.Goals as goal

pub returns : goal.returns
unfolding renamed_at target_at
returns c = λ i. (c.in_ok-target.ensures i, c.in_ok-value.ensures i)
