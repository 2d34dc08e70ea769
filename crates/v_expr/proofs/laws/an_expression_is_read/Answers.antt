use Rattle.v_expr.proofs.Again.{expression_again, selects_again}
use Rattle.v_expr.proofs.laws.an_expression_is_read.Goals as goal

pub returns-clause-expression : goal.returns-clause-expression
returns-clause-expression c = expression_again

pub returns-clause-selects : goal.returns-clause-selects
returns-clause-selects c = selects_again
