use Rattle.v_sound.proofs.Within.{target-narrow}
use Rattle.v_sound.proofs.laws.narrow_targets.Goals as goal

pub returns : goal.returns
returns c = target-narrow
