use Rattle.v_rules.specs.Judging.{broken_at}
use Rattle.v_rules.proofs.expression.broken_expression.Goals as goal

pub returns : goal.returns
unfolding broken_at
returns c = c.broken_in.ensures
