use Rattle.v_expr.proofs.Whole.{whole_selects_spelled, whole_selects_again}
use Rattle.v_expr.proofs.laws.whole_selects_are_read.Goals as goal

pub returns-clause-spelled : goal.returns-clause-spelled
returns-clause-spelled c = λ text rest s h. whole_selects_spelled text (s, rest) h

pub returns-clause-read : goal.returns-clause-read
returns-clause-read c = whole_selects_again
