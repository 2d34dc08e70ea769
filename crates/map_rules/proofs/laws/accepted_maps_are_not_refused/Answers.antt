use Rattle.map_rules.proofs.Accepting.{not_refused}
use Rattle.map_rules.proofs.laws.accepted_maps_are_not_refused.Goals as goal

pub returns : goal.returns
returns c = not_refused
