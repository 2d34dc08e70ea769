use Rattle.emitted_designs.proofs.Child.{reset_ends_nothing}
use Rattle.emitted_designs.proofs.laws.a_reset_ends_nothing.Goals as goal

pub returns : goal.returns
returns c = reset_ends_nothing
