use Rattle.v_value.specs.Scope.{scope_at}
use Rattle.v_syntax.specs.Tree.{tree_of}
use Rattle.v_size.specs.Rule.{position_of}
use Rattle.v_instances.proofs.Declared.{value_by}
use Rattle.v_instances.proofs.parameter.broken_value.Goals as goal

pub returns : goal.returns
returns c =
    value_by (scope_at c.args.names.scope.now) c.args.width (tree_of c.args.expression.now) c.judged_in-own.result.1 c.judged_in-own.ensures.width c.sign_of-signed.result c.sign_of-signed.ensures
    (position_of c.value_place.result) c.value_place.ensures c.judged_in-judged.result.0 c.judged_in-judged.ensures.broken
