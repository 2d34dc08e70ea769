use Rattle.map_scope.proofs.Names.{scopes_agree, scopes_are_narrow}
use Rattle.map_scope.proofs.laws.scopes_of_names_are_those_of_the_design.Goals as goal

pub returns : goal.returns
returns c = record { agree = scopes_agree; narrow = scopes_are_narrow }
