use Rattle.v_value.specs.Evaluation.{bound_at}
use Rattle.v_narrow.proofs.width.bound_of.Goals as goal

pub returns : goal.returns
unfolding bound_at
returns c = c.integer_of.ensures.value
