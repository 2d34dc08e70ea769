use Rattle.map_rules.proofs.Accepting.{same_scope}
use Rattle.map_rules.proofs.laws.the_scope_is_that_of_the_map.Goals as goal

pub returns : goal.returns
returns c = same_scope
