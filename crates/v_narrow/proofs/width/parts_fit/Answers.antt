use Rattle.v_value.specs.Scope.{scope_at}
use Rattle.v_narrow.proofs.Narrowed.{parts_if}
use Rattle.v_narrow.proofs.Fitted.{objects_if}
use Rattle.v_narrow.proofs.width.parts_fit.Goals as goal

pub width_together-requires : goal.width_together-requires
width_together-requires c =
    parts_if c.args.checked.objects (scope_at c.args.checked.scope.now)
    (objects_if c.args.checked.scope.now.declarations.items c.args.checked.objects c.args.checked.known)
    c.args.parts.now c.args.narrow c.requires c.if-narrow.true
