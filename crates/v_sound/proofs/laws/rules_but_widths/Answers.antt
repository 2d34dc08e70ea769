use Rattle.v_sound.proofs.Widths.{items-five}
use Rattle.v_sound.proofs.laws.rules_but_widths.Goals as goal

pub returns : goal.returns
returns c = items-five
