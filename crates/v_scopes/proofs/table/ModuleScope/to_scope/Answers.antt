use Rattle.v_scopes.proofs.Objects.{list_so}
use Rattle.v_scopes.proofs.table.ModuleScope.to_scope.Goals as goal

pub returns : goal.returns
returns c = list_so c.args.self.now c.deref.result.now c.in_ok-list.list.declarations.items c.deref.ensures.value c.in_ok-list.ensures
