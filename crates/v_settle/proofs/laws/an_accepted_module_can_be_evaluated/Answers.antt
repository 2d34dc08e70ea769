use Rattle.v_settle.proofs.Evaluable.{accepted-evaluable}
use Rattle.v_settle.proofs.laws.an_accepted_module_can_be_evaluated.Goals as goal

pub returns : goal.returns
returns c = accepted-evaluable c.unbroken_statements_are_sound.ensures
