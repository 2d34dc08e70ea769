use Rattle.v_instances.proofs.Whole.{items-whole}
use Rattle.v_instances.proofs.laws.rules_of_items.Goals as goal

pub returns : goal.returns
returns c = items-whole
