use Rattle.v_value.specs.Scope.{scope_at}
use Rattle.v_syntax.specs.Tree.{tree_of}
use Rattle.v_size.specs.Rule.{number_at}
use Rattle.v_instances.proofs.Declared.{bound_by}
use Rattle.v_instances.proofs.parameter.judged_bound.Goals as goal

pub returns : goal.returns
returns c =
    bound_by (scope_at c.args.names.scope.now) (tree_of c.args.expression.now) (number_at c.constant_in-constant.result.number) c.constant_in-constant.ensures.number c.is_outside.result c.is_outside.ensures
    c.constant_if.result c.constant_if.ensures c.constant_in-constant.result.broken c.constant_in-constant.ensures.broken c.also.result c.also.ensures c.bound_from.result c.bound_from.ensures
