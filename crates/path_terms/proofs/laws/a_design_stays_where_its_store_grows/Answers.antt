use Rattle.path_terms.proofs.Grown.{designs_stay}
use Rattle.path_terms.proofs.laws.a_design_stays_where_its_store_grows.Goals as goal

pub returns : goal.returns
returns c = designs_stay
