use Rattle.v_assigned.proofs.OneModule.{bad-names}
use Rattle.v_assigned.proofs.laws.bad_names_of_a_module.Goals as goal

pub returns : goal.returns
returns c = λ p names items known. bad-names p names known items
