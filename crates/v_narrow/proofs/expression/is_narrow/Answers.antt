use Rattle.v_value.specs.Scope.{scope_at}
use Rattle.v_syntax.specs.Tree.{tree_of}
use Rattle.v_narrow.proofs.Narrowed.{narrow_if, test_if}
use Rattle.v_narrow.proofs.Fitted.{declared_if}
use Rattle.v_narrow.proofs.expression.is_narrow.Goals as goal

pub returns-clause-narrow : goal.returns-clause-narrow
returns-clause-narrow c =
    narrow_if c.are_declared_narrow.result (scope_at c.args.scope.now)
    (declared_if c.are_declared_narrow.result c.declarations.result.now c.args.scope.now.declarations.items c.are_declared_narrow.ensures c.declarations.ensures).0
    (tree_of c.args.expression.now) c.narrow.result c.narrow.ensures

pub returns-clause-exact : goal.returns-clause-exact
returns-clause-exact c =
    test_if c.are_declared_narrow.result (scope_at c.args.scope.now)
    (declared_if c.are_declared_narrow.result c.declarations.result.now c.args.scope.now.declarations.items c.are_declared_narrow.ensures c.declarations.ensures).1
    (tree_of c.args.expression.now) c.narrow.result c.narrow.ensures
