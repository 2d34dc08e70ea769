use Rattle.v_body.proofs.Spelled.{assignment_spelled}
use Rattle.v_body.proofs.TargetsAgain.{assignment_again}
use Rattle.v_body.proofs.laws.an_assignment_is_read.Goals as goal

pub returns-clause-spelled : goal.returns-clause-spelled
returns-clause-spelled c = λ sign x text rest h. assignment_spelled sign text (x, rest) h

pub returns-clause-read : goal.returns-clause-read
returns-clause-read c = λ k sign x text rest ends d finishes. assignment_again k sign ends x text rest d finishes
