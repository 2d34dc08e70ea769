use Rattle.std.proofs.Common.{arith}
use Rattle.v_value.specs.Scope.{object_of}
use Rattle.v_narrow.proofs.Fitted.{wide_tells}
use Rattle.v_narrow.proofs.object.number_fits.Goals as goal

pub returns-then-last-ge127 : goal.returns-then-last-ge127
returns-then-last-ge127 c =
    wide_tells 128 (object_of c.args.object) c.args.number c.last_place-last.result c.last_place-last.ensures (omega (arith, c.if-last-ge127.true)) c.ranges.number.fits 127 c.if-last-ge127.true
