use Rattle.v_sound.proofs.Within.{assignments-within}
use Rattle.v_sound.proofs.laws.unbroken_assignments.Goals as goal

pub returns : goal.returns
returns c = assignments-within
