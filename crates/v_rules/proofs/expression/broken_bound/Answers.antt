use Rattle.v_value.specs.Scope.{scope_at}
use Rattle.v_syntax.specs.Tree.{tree_of}
use Rattle.v_size.specs.Rule.{number_at}
use Rattle.v_rules.proofs.Numbers.{bound-by}
use Rattle.v_rules.proofs.expression.broken_bound.Goals as goal

pub returns : goal.returns
returns c =
    bound-by (scope_at c.args.names.scope.now) (tree_of c.args.expression.now) (number_at c.constant_in-constant.result.number) c.constant_in-constant.ensures.number c.is_outside.result c.is_outside.ensures
    c.constant_if.result c.constant_if.ensures c.constant_in-constant.result.broken c.constant_in-constant.ensures.broken c.also.result c.also.ensures
