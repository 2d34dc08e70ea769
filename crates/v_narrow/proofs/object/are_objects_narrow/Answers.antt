use Rattle.v_narrow.proofs.Fitted.{declared_if}
use Rattle.v_narrow.proofs.object.are_objects_narrow.Goals as goal

pub returns-clause-objects : goal.returns-clause-objects
returns-clause-objects c =
    (declared_if c.are_declared_narrow.result c.declarations.result.now c.args.scope.now.declarations.items c.are_declared_narrow.ensures c.declarations.ensures).0

pub returns-clause-exact : goal.returns-clause-exact
returns-clause-exact c =
    (declared_if c.are_declared_narrow.result c.declarations.result.now c.args.scope.now.declarations.items c.are_declared_narrow.ensures c.declarations.ensures).1
