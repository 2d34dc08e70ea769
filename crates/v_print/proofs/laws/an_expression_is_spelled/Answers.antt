use Rattle.v_print.proofs.Expressions.{bare_spelled}
use Rattle.v_print.proofs.laws.an_expression_is_spelled.Goals as goal

pub returns : goal.returns
returns c = bare_spelled
