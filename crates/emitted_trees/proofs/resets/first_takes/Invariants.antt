use Rattle.std.proofs.Common.{◌≡◌, ◌++◌, map, drop}
use Rattle.model_meaning.specs.Model.{states_of}
use Rattle.v_syntax.specs.Tree.{statement_of}
use Rattle.ila_model.specs.Model.{model_of}
use Rattle.emitted_trees.proofs.Written.{first_statements}
use Rattle.emitted_trees.proofs.resets.first_takes.Given as goal

abbrev pub invariant-loop-place : goal.invariant-loop-place
invariant-loop-place l =
    map statement_of l.all.items ++ first_statements (drop l.place (states_of (model_of l.model).top)) ≡ first_statements (states_of (model_of l.model).top)
