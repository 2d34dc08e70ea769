use Rattle.std.proofs.Common.{refl, ◌∙◌, ap}
use Rattle.v_value.specs.Scope.{object_of, scope_at}
use Rattle.v_syntax.specs.Tree.{selects_of}
use Rattle.v_narrow.specs.Test.{selects_narrow_at}
use Rattle.v_narrow.proofs.Arms as arms
use Rattle.v_narrow.proofs.expression.+narrow.Goals as goal

pub narrow-returns-in-Number : goal.narrow-returns-in-Number
narrow-returns-in-Number t c =
    arms.at-Number c.args.checked.objects (scope_at c.args.checked.scope.now) c.args.expression.now c.is_number_narrow.result c.in-Number.number c.in-Number.is c.is_number_narrow.ensures

pub narrow-returns-in-Name : goal.narrow-returns-in-Name
narrow-returns-in-Name t c =
    arms.at-Name c.args.checked.objects (scope_at c.args.checked.scope.now) c.args.expression.now c.selects_narrow.result c.in-Name.name c.in-Name.selects c.in-Name.is
    (c.selects_narrow.ensures ∙ ap (λ o. selects_narrow_at c.args.checked.objects (scope_at c.args.checked.scope.now) o (selects_of c.in-Name.selects)) c.object.ensures)

pub narrow-returns-in-Concatenation : goal.narrow-returns-in-Concatenation
narrow-returns-in-Concatenation t c =
    arms.at-Concatenation c.args.checked.objects (scope_at c.args.checked.scope.now) c.args.expression.now c.parts_fit.result c.in-Concatenation.parts c.in-Concatenation.is c.deref.result.now c.deref.ensures.value c.parts_fit.ensures

pub narrow-returns-in-Replication : goal.narrow-returns-in-Replication
narrow-returns-in-Replication t c =
    arms.at-Replication c.args.checked.objects (scope_at c.args.checked.scope.now) c.args.expression.now c.repeated_fit.result c.in-Replication.count c.in-Replication.parts c.in-Replication.is
    c.deref-in-Replication.result.now c.deref-in-Replication.ensures c.deref-in-Replication-2.result.now c.deref-in-Replication-2.ensures.value
    c.deref-in-Replication-3.result.now c.deref-in-Replication-3.ensures c.deref-in-Replication-4.result.now c.deref-in-Replication-4.ensures.value
    c.narrow.result c.parts_narrow-in-Replication.result c.narrow.ensures c.parts_narrow-in-Replication.ensures c.repeated_fit.ensures

pub narrow-returns-in-AsSigned : goal.narrow-returns-in-AsSigned
narrow-returns-in-AsSigned t c =
    arms.at-AsSigned c.args.checked.objects (scope_at c.args.checked.scope.now) c.args.expression.now _ c.deref-in-AsSigned.result.now c.narrow-in-AsSigned.result c.narrow-in-AsSigned.ensures c.in-AsSigned.operand c.in-AsSigned.is c.deref-in-AsSigned.ensures refl

pub narrow-returns-in-AsUnsigned : goal.narrow-returns-in-AsUnsigned
narrow-returns-in-AsUnsigned t c =
    arms.at-AsUnsigned c.args.checked.objects (scope_at c.args.checked.scope.now) c.args.expression.now _ c.deref-in-AsUnsigned.result.now c.narrow-in-AsUnsigned.result c.narrow-in-AsUnsigned.ensures c.in-AsUnsigned.operand c.in-AsUnsigned.is c.deref-in-AsUnsigned.ensures refl

pub narrow-returns-in-Prefix : goal.narrow-returns-in-Prefix
narrow-returns-in-Prefix t c =
    arms.at-Prefix c.args.checked.objects (scope_at c.args.checked.scope.now) c.args.expression.now _ c.deref-in-Prefix.result.now c.narrow-in-Prefix.result c.narrow-in-Prefix.ensures c.in-Prefix.field-0 c.in-Prefix.operand c.in-Prefix.is c.deref-in-Prefix.ensures refl

pub narrow-returns-in-Binary : goal.narrow-returns-in-Binary
narrow-returns-in-Binary t c =
    arms.at-Binary c.args.checked.objects (scope_at c.args.checked.scope.now) c.args.expression.now _ c.deref-in-Binary-2.result.now c.narrow-in-Binary.result c.narrow-in-Binary.ensures
    c.in-Binary.first c.in-Binary.links c.in-Binary.is c.deref-in-Binary-2.ensures c.deref-in-Binary.result.now c.deref-in-Binary.ensures.value c.links_narrow.ensures

pub narrow-returns-in-Test : goal.narrow-returns-in-Test
narrow-returns-in-Test t c =
    arms.at-Test c.args.checked.objects (scope_at c.args.checked.scope.now) c.args.expression.now _ c.deref-in-Test-2.result.now c.narrow-in-Test.result c.narrow-in-Test.ensures
    c.in-Test.first c.in-Test.links c.in-Test.is c.deref-in-Test-2.ensures c.deref-in-Test.result.now c.deref-in-Test.ensures.value c.tests_narrow.ensures

pub narrow-returns-in-Conditional : goal.narrow-returns-in-Conditional
narrow-returns-in-Conditional t c =
    arms.at-Conditional c.args.checked.objects (scope_at c.args.checked.scope.now) c.args.expression.now _ c.deref-in-Conditional-2.result.now c.narrow-in-Conditional.result c.narrow-in-Conditional.ensures
    c.in-Conditional.choices c.in-Conditional.last c.in-Conditional.is c.deref-in-Conditional-2.ensures c.deref-in-Conditional.result.now c.deref-in-Conditional.ensures.value c.choices_narrow.ensures

pub select_narrow-returns-in-Index : goal.select_narrow-returns-in-Index
select_narrow-returns-in-Index t c =
    arms.at-Index c.args.checked.objects (scope_at c.args.checked.scope.now) c.args.select.now c.narrow.result c.in-Index.index c.in-Index.is c.deref.result.now c.deref.ensures c.narrow.ensures

pub select_narrow-returns-in-Part : goal.select_narrow-returns-in-Part
select_narrow-returns-in-Part t c =
    arms.at-Part c.args.checked.objects (scope_at c.args.checked.scope.now) c.args.select.now c.all_three.result c.in-Part.left c.in-Part.right c.deref-in-Part.result.now c.deref-in-Part-2.result.now c.deref-in-Part.ensures c.deref-in-Part-2.ensures
    c.narrow-in-Part.result c.narrow-in-Part-2.result c.narrow-in-Part.ensures c.narrow-in-Part-2.ensures c.all_three.ensures c.in-Part.is

pub select_narrow-returns-in-PartUp : goal.select_narrow-returns-in-PartUp
select_narrow-returns-in-PartUp t c =
    arms.at-PartUp c.args.checked.objects (scope_at c.args.checked.scope.now) c.args.select.now c.all_three-in-PartUp.result c.in-PartUp.base c.in-PartUp.count c.deref-in-PartUp.result.now c.deref-in-PartUp-2.result.now c.deref-in-PartUp.ensures c.deref-in-PartUp-2.ensures
    c.narrow-in-PartUp.result c.narrow-in-PartUp-2.result c.narrow-in-PartUp.ensures c.narrow-in-PartUp-2.ensures c.all_three-in-PartUp.ensures c.in-PartUp.is

pub select_narrow-returns-in-PartDown : goal.select_narrow-returns-in-PartDown
select_narrow-returns-in-PartDown t c =
    arms.at-PartDown c.args.checked.objects (scope_at c.args.checked.scope.now) c.args.select.now c.all_three-in-PartDown.result c.in-PartDown.base c.in-PartDown.count c.deref-in-PartDown.result.now c.deref-in-PartDown-2.result.now c.deref-in-PartDown.ensures c.deref-in-PartDown-2.ensures
    c.narrow-in-PartDown.result c.narrow-in-PartDown-2.result c.narrow-in-PartDown.ensures c.narrow-in-PartDown-2.ensures c.all_three-in-PartDown.ensures c.in-PartDown.is

pub selects_narrow-returns-in-Whole : goal.selects_narrow-returns-in-Whole
selects_narrow-returns-in-Whole t c =
    arms.at-Whole c.args.checked.objects (scope_at c.args.checked.scope.now) (object_of c.args.object) c.args.selects.now c.is_object_narrow.result c.in-Whole.is c.is_object_narrow.ensures

pub selects_narrow-returns-in-One : goal.selects_narrow-returns-in-One
selects_narrow-returns-in-One t c =
    arms.at-One c.args.checked.objects (scope_at c.args.checked.scope.now) (object_of c.args.object) c.args.selects.now c.one_fits.result c.in-One.select c.in-One.is
    c.select_narrow.result c.select_narrow.ensures c.one_fits.ensures

pub selects_narrow-returns-in-Two : goal.selects_narrow-returns-in-Two
selects_narrow-returns-in-Two t c =
    arms.at-Two c.args.checked.objects (scope_at c.args.checked.scope.now) (object_of c.args.object) c.args.selects.now c.two_fit.result c.in-Two.first c.in-Two.second c.in-Two.is
    c.select_narrow-in-Two.result c.select_narrow-in-Two-2.result c.select_narrow-in-Two.ensures c.select_narrow-in-Two-2.ensures c.two_fit.ensures
