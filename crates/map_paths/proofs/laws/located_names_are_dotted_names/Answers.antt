use Rattle.map_paths.proofs.Leads.{names_are_dotted, dotted_are_located}
use Rattle.map_paths.proofs.laws.located_names_are_dotted_names.Goals as goal

pub returns : goal.returns
returns c = record { are_dotted = names_are_dotted; are_located = dotted_are_located }
