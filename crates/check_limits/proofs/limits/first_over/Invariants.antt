use Rattle.model_meaning.specs.Model.{instructions_in}
use Rattle.ila_model.specs.Model.{model_of}
use Rattle.check_limits.proofs.Summing.{NoneBefore}
use Rattle.check_limits.proofs.limits.first_over.Given as goal

abbrev pub invariant-loop-number : goal.invariant-loop-number
invariant-loop-number l = NoneBefore (instructions_in (model_of l.model).top) l.number
