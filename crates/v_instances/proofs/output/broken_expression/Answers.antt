use Rattle.v_instances.specs.Outputs.{expression_at}
use Rattle.v_instances.proofs.output.broken_expression.Goals as goal

pub returns : goal.returns
unfolding expression_at
returns c = c.broken_in.ensures
