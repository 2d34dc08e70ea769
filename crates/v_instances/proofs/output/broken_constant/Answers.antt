use Rattle.v_instances.specs.Outputs.{constant_at}
use Rattle.v_instances.proofs.output.broken_constant.Goals as goal

pub returns : goal.returns
unfolding constant_at
returns c = c.constant_in-constant.ensures.broken
