use Rattle.input_free.proofs.Free.{values_are_free, conditions_are_free}
use Rattle.input_free.proofs.laws.states_and_invariants_do_not_depend_on_inputs.Goals as goal

pub returns : goal.returns
returns c = record { values = values_are_free; conditions = conditions_are_free }
