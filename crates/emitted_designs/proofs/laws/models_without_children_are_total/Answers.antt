use Rattle.emitted_designs.proofs.Childless.{are_total}
use Rattle.emitted_designs.proofs.laws.models_without_children_are_total.Goals as goal

pub returns : goal.returns
returns c = are_total
