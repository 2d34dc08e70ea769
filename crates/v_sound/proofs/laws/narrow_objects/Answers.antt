use Rattle.v_sound.proofs.Within.{module-narrow}
use Rattle.v_sound.proofs.laws.narrow_objects.Goals as goal

pub returns : goal.returns
returns c = λ source p e h. module-narrow source p h e
