use Rattle.v_body.proofs.Spelled.{target_spelled}
use Rattle.v_body.proofs.TargetsAgain.{target_again}
use Rattle.v_body.proofs.laws.a_target_is_read.Goals as goal

pub returns-clause-spelled : goal.returns-clause-spelled
returns-clause-spelled c = λ t text rest h. target_spelled text (t, rest) h

pub returns-clause-read : goal.returns-clause-read
returns-clause-read c = target_again
