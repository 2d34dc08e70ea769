use Rattle.map_paths.proofs.Leads.{names_have_their_meaning}
use Rattle.map_paths.proofs.laws.located_names_have_their_meaning.Goals as goal

pub returns : goal.returns
returns c = names_have_their_meaning
