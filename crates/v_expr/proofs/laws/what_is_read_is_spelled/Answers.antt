use Rattle.v_expr.specs.Reading.{expression_at}
use Rattle.v_expr.proofs.Spelled.{expression_spelled, selects_spelled}
use Rattle.v_expr.proofs.laws.what_is_read_is_spelled.Goals as goal

pub returns-clause-expression : goal.returns-clause-expression
returns-clause-expression c = λ d text rest e h. expression_spelled d text (e, rest) h

pub returns-clause-selects : goal.returns-clause-selects
returns-clause-selects c = λ d text rest s h. selects_spelled (expression_at d) (expression_spelled d) text (s, rest) h
