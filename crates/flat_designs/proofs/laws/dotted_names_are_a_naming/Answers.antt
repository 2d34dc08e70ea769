use Rattle.flat_designs.proofs.Known.{dotted_names_are_a_naming}
use Rattle.flat_designs.proofs.laws.dotted_names_are_a_naming.Goals as goal

pub returns : goal.returns
returns c = dotted_names_are_a_naming
