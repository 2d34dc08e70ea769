use Rattle.mapped_runs.proofs.Keeping.{keeps_sorts}
use Rattle.mapped_runs.proofs.laws.sorted_terms_keep_sorts.Goals as goal

pub returns : goal.returns
returns c = keeps_sorts
