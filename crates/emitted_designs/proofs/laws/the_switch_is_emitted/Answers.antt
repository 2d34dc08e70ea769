use Rattle.emitted_designs.proofs.Switch.{emitted}
use Rattle.emitted_designs.proofs.laws.the_switch_is_emitted.Goals as goal

pub returns : goal.returns
returns c = emitted
