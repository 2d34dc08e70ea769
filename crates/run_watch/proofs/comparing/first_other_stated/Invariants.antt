use Rattle.model_meaning.specs.Model.{states_of}
use Rattle.ila_model.specs.Model.{model_of}
use Rattle.run_watch.proofs.Differing.{NoneOtherTo}
use Rattle.run_watch.proofs.comparing.first_other_stated.Given as goal

abbrev pub invariant-loop-k : goal.invariant-loop-k
invariant-loop-k l = NoneOtherTo l.k (states_of (model_of l.model).top) l.values
