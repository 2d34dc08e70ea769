use Rattle.v_sound.proofs.Within.{module-items}
use Rattle.v_sound.proofs.laws.unbroken_items.Goals as goal

pub returns : goal.returns
returns c = λ source p i h k. module-items source p h i k
