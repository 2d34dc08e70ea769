use Rattle.v_value.specs.Scope.{scope_at}
use Rattle.test_paths.proofs.Parts as parts
use Rattle.test_paths.proofs.fit.select_fits.Goals as goal

pub returns-in-Index : goal.returns-in-Index
returns-in-Index c = λ t.
    parts.select-Index (scope_at c.args.names.scope.now) c.args.select.now c.in-Index.index c.in-Index.is c.deref.result.now c.deref.ensures (c.is_narrow.ensures.narrow t)

pub returns-in-Part : goal.returns-in-Part
returns-in-Part c = λ t.
    parts.select-Part (scope_at c.args.names.scope.now) c.args.select.now c.args.names.narrow c.in-Part.left c.in-Part.right c.in-Part.is
    c.deref-in-Part.result.now c.deref-in-Part-2.result.now c.deref-in-Part.ensures c.deref-in-Part-2.ensures (c.both_fit.ensures t)

pub returns-in-PartUp : goal.returns-in-PartUp
returns-in-PartUp c = λ t.
    parts.select-PartUp (scope_at c.args.names.scope.now) c.args.select.now c.args.names.narrow c.in-PartUp.base c.in-PartUp.width c.in-PartUp.is
    c.deref-in-PartUp.result.now c.deref-in-PartUp-2.result.now c.deref-in-PartUp.ensures c.deref-in-PartUp-2.ensures (c.both_fit-in-PartUp.ensures t)

pub returns-in-PartDown : goal.returns-in-PartDown
returns-in-PartDown c = λ t.
    parts.select-PartDown (scope_at c.args.names.scope.now) c.args.select.now c.args.names.narrow c.in-PartDown.base c.in-PartDown.width c.in-PartDown.is
    c.deref-in-PartDown.result.now c.deref-in-PartDown-2.result.now c.deref-in-PartDown.ensures c.deref-in-PartDown-2.ensures (c.both_fit-in-PartDown.ensures t)
