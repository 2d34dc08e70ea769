use Rattle.std.proofs.Common.{arith}
use Rattle.v_value.specs.Scope.{scope_at}
use Rattle.v_syntax.specs.Tree.{tree_of}
use Rattle.v_value.proofs.Narrows.{narrow_width}
use Rattle.v_statement.proofs.evaluation.assigned_value.Goals as goal

pub value_of-requires-clause-at_most_128 : goal.value_of-requires-clause-at_most_128
value_of-requires-clause-at_most_128 c =
    omega (arith, (narrow_width (scope_at c.args.scope.now) (tree_of c.args.expression.now) c.requires.narrow).1)
