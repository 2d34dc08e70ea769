use Rattle.printed_traces.proofs.DistinctNames.{distinct_names}
use Rattle.printed_traces.proofs.laws.obligations_have_distinct_names.Goals as goal

pub returns : goal.returns
returns c = distinct_names
