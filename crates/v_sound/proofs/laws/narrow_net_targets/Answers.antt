use Rattle.v_sound.proofs.Within.{net-target-narrow}
use Rattle.v_sound.proofs.laws.narrow_net_targets.Goals as goal

pub returns : goal.returns
returns c = net-target-narrow
