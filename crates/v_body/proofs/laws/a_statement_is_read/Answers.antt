use Rattle.v_body.proofs.Spelled.{statement_spelled, statement_nearest}
use Rattle.v_body.proofs.StatementsAgain.{statement_again}
use Rattle.v_body.proofs.laws.a_statement_is_read.Goals as goal

pub returns-clause-spelled : goal.returns-clause-spelled
returns-clause-spelled c = λ s text rest h. statement_spelled text (s, rest) h

pub returns-clause-nearest : goal.returns-clause-nearest
returns-clause-nearest c = λ s text rest h. statement_nearest text (s, rest) h

pub returns-clause-read : goal.returns-clause-read
returns-clause-read c = statement_again
