use Rattle.v_value.specs.Evaluation.{sign_at}
use Rattle.v_size.proofs.judged.operand_sign.Goals as goal

pub returns : goal.returns
unfolding sign_at
returns c = c.sign_of.ensures
