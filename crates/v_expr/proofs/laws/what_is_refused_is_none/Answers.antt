use Rattle.v_expr.proofs.Again.{none_again}
use Rattle.v_expr.proofs.laws.what_is_refused_is_none.Goals as goal

pub returns : goal.returns
returns c = none_again
