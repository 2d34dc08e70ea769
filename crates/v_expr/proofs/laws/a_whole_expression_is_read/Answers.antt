use Rattle.v_expr.proofs.Whole.{whole_spelled, whole_again}
use Rattle.v_expr.proofs.laws.a_whole_expression_is_read.Goals as goal

pub returns-clause-spelled : goal.returns-clause-spelled
returns-clause-spelled c = λ text rest e h. whole_spelled text (e, rest) h

pub returns-clause-read : goal.returns-clause-read
returns-clause-read c = whole_again
