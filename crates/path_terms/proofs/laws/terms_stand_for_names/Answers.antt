use Rattle.path_terms.proofs.Standing.{terms_stand}
use Rattle.path_terms.proofs.laws.terms_stand_for_names.Goals as goal

pub returns : goal.returns
returns c = terms_stand
