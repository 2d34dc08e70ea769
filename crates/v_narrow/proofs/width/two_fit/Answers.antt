use Rattle.v_value.specs.Scope.{scope_at}
use Rattle.v_syntax.specs.Tree.{select_of}
use Rattle.v_narrow.proofs.Narrowed.{select_if}
use Rattle.v_narrow.proofs.Fitted.{objects_if}
use Rattle.v_narrow.proofs.width.two_fit.Goals as goal

pub takes_few-requires : goal.takes_few-requires
takes_few-requires c =
    select_if c.args.checked.objects (scope_at c.args.checked.scope.now)
    (objects_if c.args.checked.scope.now.declarations.items c.args.checked.objects c.args.checked.known)
    (select_of c.args.select.now) c.args.second c.requires c.if-not-second.false
