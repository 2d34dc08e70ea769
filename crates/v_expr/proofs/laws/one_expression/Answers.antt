use Rattle.v_expr.proofs.Again.{one_expression}
use Rattle.v_expr.proofs.laws.one_expression.Goals as goal

pub returns : goal.returns
returns c = one_expression
