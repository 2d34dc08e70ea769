use Rattle.v_body.proofs.Whole.{one_statement}
use Rattle.v_body.proofs.laws.one_statement.Goals as goal

pub returns : goal.returns
returns c = one_statement
