use Rattle.obligation_lists.proofs.NameParts.{names_differ}
use Rattle.obligation_lists.proofs.laws.names_of_obligations_are_distinct.Goals as goal

pub returns : goal.returns
returns c = names_differ
