use Rattle.std.proofs.Common.{refl}
use Rattle.v_hier.specs.Reading.{knows}
use Rattle.v_hier.proofs.Arms as arms
use Rattle.v_hier.proofs.expression.+expression.Goals as goal

pub is_expression_known-returns-in-Number : goal.is_expression_known-returns-in-Number
is_expression_known-returns-in-Number t c =
    arms.at-Number (knows c.args.names.now) c.args.expression.now _ c.in-Number.field-0 c.in-Number.is refl

pub is_expression_known-returns-in-Name : goal.is_expression_known-returns-in-Name
is_expression_known-returns-in-Name t c =
    arms.at-Name (knows c.args.names.now) c.args.expression.now _ c.in-Name.name c.in-Name.selects c.in-Name.is c.is_known.result c.are_selects_known.result c.is_known.ensures c.are_selects_known.ensures c.both.ensures

pub is_expression_known-returns-in-Concatenation : goal.is_expression_known-returns-in-Concatenation
is_expression_known-returns-in-Concatenation t c =
    arms.at-Concatenation (knows c.args.names.now) c.args.expression.now _ c.in-Concatenation.parts c.in-Concatenation.is c.deref.result.now c.deref.ensures.value c.are_parts_known.ensures

pub is_expression_known-returns-in-Replication : goal.is_expression_known-returns-in-Replication
is_expression_known-returns-in-Replication t c =
    arms.at-Replication (knows c.args.names.now) c.args.expression.now _ c.in-Replication.count c.in-Replication.parts c.in-Replication.is c.deref-in-Replication.result.now c.deref-in-Replication.ensures c.deref-in-Replication-2.result.now c.deref-in-Replication-2.ensures.value
    c.is_expression_known.result c.are_parts_known-in-Replication.result c.is_expression_known.ensures c.are_parts_known-in-Replication.ensures c.both-in-Replication.ensures

pub is_expression_known-returns-in-AsSigned : goal.is_expression_known-returns-in-AsSigned
is_expression_known-returns-in-AsSigned t c =
    arms.at-AsSigned (knows c.args.names.now) c.args.expression.now _ c.deref-in-AsSigned.result.now c.is_expression_known-in-AsSigned.result c.is_expression_known-in-AsSigned.ensures c.in-AsSigned.operand c.in-AsSigned.is c.deref-in-AsSigned.ensures refl

pub is_expression_known-returns-in-AsUnsigned : goal.is_expression_known-returns-in-AsUnsigned
is_expression_known-returns-in-AsUnsigned t c =
    arms.at-AsUnsigned (knows c.args.names.now) c.args.expression.now _ c.deref-in-AsUnsigned.result.now c.is_expression_known-in-AsUnsigned.result c.is_expression_known-in-AsUnsigned.ensures c.in-AsUnsigned.operand c.in-AsUnsigned.is c.deref-in-AsUnsigned.ensures refl

pub is_expression_known-returns-in-Prefix : goal.is_expression_known-returns-in-Prefix
is_expression_known-returns-in-Prefix t c =
    arms.at-Prefix (knows c.args.names.now) c.args.expression.now _ c.deref-in-Prefix.result.now c.is_expression_known-in-Prefix.result c.is_expression_known-in-Prefix.ensures c.in-Prefix.field-0 c.in-Prefix.operand c.in-Prefix.is c.deref-in-Prefix.ensures refl

pub is_expression_known-returns-in-Binary : goal.is_expression_known-returns-in-Binary
is_expression_known-returns-in-Binary t c =
    arms.at-Binary (knows c.args.names.now) c.args.expression.now _ c.deref-in-Binary-2.result.now c.is_expression_known-in-Binary.result c.is_expression_known-in-Binary.ensures
    c.in-Binary.first c.in-Binary.links c.in-Binary.is c.deref-in-Binary-2.ensures c.deref-in-Binary.result.now c.deref-in-Binary.ensures.value c.are_links_known.ensures

pub is_expression_known-returns-in-Test : goal.is_expression_known-returns-in-Test
is_expression_known-returns-in-Test t c =
    arms.at-Test (knows c.args.names.now) c.args.expression.now _ c.deref-in-Test-2.result.now c.is_expression_known-in-Test.result c.is_expression_known-in-Test.ensures
    c.in-Test.first c.in-Test.links c.in-Test.is c.deref-in-Test-2.ensures c.deref-in-Test.result.now c.deref-in-Test.ensures.value c.are_tests_known.ensures

pub is_expression_known-returns-in-Conditional : goal.is_expression_known-returns-in-Conditional
is_expression_known-returns-in-Conditional t c =
    arms.at-Conditional (knows c.args.names.now) c.args.expression.now _ c.deref-in-Conditional-2.result.now c.is_expression_known-in-Conditional.result c.is_expression_known-in-Conditional.ensures
    c.in-Conditional.choices c.in-Conditional.last c.in-Conditional.is c.deref-in-Conditional-2.ensures c.deref-in-Conditional.result.now c.deref-in-Conditional.ensures.value c.are_choices_known.ensures

pub is_select_known-returns-in-Index : goal.is_select_known-returns-in-Index
is_select_known-returns-in-Index t c =
    arms.at-Index (knows c.args.names.now) c.args.select.now c.is_expression_known.result c.in-Index.index c.in-Index.is c.deref.result.now c.deref.ensures c.is_expression_known.ensures

pub is_select_known-returns-in-Part : goal.is_select_known-returns-in-Part
is_select_known-returns-in-Part t c =
    arms.at-Part (knows c.args.names.now) c.args.select.now c.both.result c.in-Part.left c.in-Part.right c.deref-in-Part.result.now c.deref-in-Part-2.result.now c.deref-in-Part.ensures c.deref-in-Part-2.ensures
    c.is_expression_known-in-Part.result c.is_expression_known-in-Part-2.result c.is_expression_known-in-Part.ensures c.is_expression_known-in-Part-2.ensures c.both.ensures c.in-Part.is

pub is_select_known-returns-in-PartUp : goal.is_select_known-returns-in-PartUp
is_select_known-returns-in-PartUp t c =
    arms.at-PartUp (knows c.args.names.now) c.args.select.now c.both-in-PartUp.result c.in-PartUp.base c.in-PartUp.count c.deref-in-PartUp.result.now c.deref-in-PartUp-2.result.now c.deref-in-PartUp.ensures c.deref-in-PartUp-2.ensures
    c.is_expression_known-in-PartUp.result c.is_expression_known-in-PartUp-2.result c.is_expression_known-in-PartUp.ensures c.is_expression_known-in-PartUp-2.ensures c.both-in-PartUp.ensures c.in-PartUp.is

pub is_select_known-returns-in-PartDown : goal.is_select_known-returns-in-PartDown
is_select_known-returns-in-PartDown t c =
    arms.at-PartDown (knows c.args.names.now) c.args.select.now c.both-in-PartDown.result c.in-PartDown.base c.in-PartDown.count c.deref-in-PartDown.result.now c.deref-in-PartDown-2.result.now c.deref-in-PartDown.ensures c.deref-in-PartDown-2.ensures
    c.is_expression_known-in-PartDown.result c.is_expression_known-in-PartDown-2.result c.is_expression_known-in-PartDown.ensures c.is_expression_known-in-PartDown-2.ensures c.both-in-PartDown.ensures c.in-PartDown.is

pub are_selects_known-returns-in-Whole : goal.are_selects_known-returns-in-Whole
are_selects_known-returns-in-Whole t c =
    arms.at-Whole (knows c.args.names.now) c.args.selects.now _ c.in-Whole.is refl

pub are_selects_known-returns-in-One : goal.are_selects_known-returns-in-One
are_selects_known-returns-in-One t c =
    arms.at-One (knows c.args.names.now) c.args.selects.now c.is_select_known.result c.in-One.select c.in-One.is c.is_select_known.ensures

pub are_selects_known-returns-in-Two : goal.are_selects_known-returns-in-Two
are_selects_known-returns-in-Two t c =
    arms.at-Two (knows c.args.names.now) c.args.selects.now c.both.result c.in-Two.first c.in-Two.second c.in-Two.is c.is_select_known-in-Two.result c.is_select_known-in-Two-2.result c.is_select_known-in-Two.ensures c.is_select_known-in-Two-2.ensures c.both.ensures
