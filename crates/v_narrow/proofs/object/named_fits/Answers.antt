use Rattle.std.proofs.Common.{arith}
use Rattle.v_value.specs.Scope.{scope_at}
use Rattle.v_narrow.proofs.Fitted.{none-fits}
use Rattle.v_narrow.proofs.object.named_fits.Goals as goal

pub returns : goal.returns
returns c =
    none-fits (scope_at c.args.scope.now c.args.name.now) c.args.values.now c.loop-entry.entry-index c.args.name.now c.loop-entry.invariant
    (omega (arith, c.loop-entry-test.false))
