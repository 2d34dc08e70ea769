use Rattle.ila_model.specs.Model.{model_of}
use Rattle.ila_child.specs.State.{state_valuation, input_valuation}
use Rattle.run_watch.proofs.Starting.{NoneDecodesTo}
use Rattle.run_watch.proofs.commands.first_decoding.Given as goal

abbrev pub invariant-loop-k : goal.invariant-loop-k
invariant-loop-k l = NoneDecodesTo l.k (model_of l.model) (state_valuation (model_of l.model) l.state) (input_valuation (model_of l.model) l.inputs)
