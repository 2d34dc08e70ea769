use Rattle.v_value.specs.Scope.{scope_at}
use Rattle.v_value.specs.Index.{integer_at}
use Rattle.v_narrow.proofs.Counted as counted
use Rattle.v_narrow.proofs.width.takes_few.Goals as goal

pub bound_of-requires : goal.bound_of-requires
bound_of-requires c = counted.part-left (scope_at c.args.scope.now) c.args.select.now c.in-Part.left c.in-Part.right c.in-Part.is c.requires c.deref.result.now c.deref.ensures

pub bound_of-requires-in-Part : goal.bound_of-requires-in-Part
bound_of-requires-in-Part c = counted.part-right (scope_at c.args.scope.now) c.args.select.now c.in-Part.left c.in-Part.right c.in-Part.is c.requires c.deref-in-Part.result.now c.deref-in-Part.ensures

pub count_of-requires : goal.count_of-requires
count_of-requires c = counted.up-count (scope_at c.args.scope.now) c.args.select.now c.in-PartUp.field-0 c.in-PartUp.count c.deref-in-PartUp.result.now c.deref-in-PartUp.ensures c.in-PartUp.is c.requires

pub count_of-requires-in-PartDown : goal.count_of-requires-in-PartDown
count_of-requires-in-PartDown c = counted.down-count (scope_at c.args.scope.now) c.args.select.now c.in-PartDown.field-0 c.in-PartDown.count c.deref-in-PartDown.result.now c.deref-in-PartDown.ensures c.in-PartDown.is c.requires

pub returns-in-Index : goal.returns-in-Index
returns-in-Index c = counted.index-few (scope_at c.args.scope.now) c.args.select.now c.in-Index.field-0 c.in-Index.is

pub returns-in-Part : goal.returns-in-Part
returns-in-Part c =
    counted.part-few (scope_at c.args.scope.now) c.args.select.now c.in-Part.left c.in-Part.right c.in-Part.is c.deref.result.now c.deref-in-Part.result.now c.deref.ensures c.deref-in-Part.ensures
    (integer_at c.bound_of.result) (integer_at c.bound_of-in-Part.result) c.bound_of.ensures c.bound_of-in-Part.ensures c.are_near.result c.are_near.ensures

pub returns-in-PartUp : goal.returns-in-PartUp
returns-in-PartUp c =
    counted.up-few (scope_at c.args.scope.now) c.args.select.now c.in-PartUp.field-0 c.in-PartUp.count c.deref-in-PartUp.result.now c.deref-in-PartUp.ensures c.in-PartUp.is c.count_of.result c.count_of.ensures c.is_width.result c.is_width.ensures

pub returns-in-PartDown : goal.returns-in-PartDown
returns-in-PartDown c =
    counted.down-few (scope_at c.args.scope.now) c.args.select.now c.in-PartDown.field-0 c.in-PartDown.count c.deref-in-PartDown.result.now c.deref-in-PartDown.ensures c.in-PartDown.is c.count_of-in-PartDown.result c.count_of-in-PartDown.ensures c.is_width-in-PartDown.result c.is_width-in-PartDown.ensures
