use Rattle.std.proofs.Common.{refl}
use Rattle.v_hier.specs.Tables.{has_name}
use Rattle.v_clocks.specs.Uses.{none_of}
use Rattle.v_clocks.proofs.Arms as arms
use Rattle.v_clocks.proofs.expression.+expression.Goals as goal

pub is_free-returns-in-Number : goal.is_free-returns-in-Number
is_free-returns-in-Number t c =
    arms.at-Number (none_of (has_name c.args.clocks.now)) c.args.expression.now _ c.in-Number.field-0 c.in-Number.is refl

pub is_free-returns-in-Name : goal.is_free-returns-in-Name
is_free-returns-in-Name t c =
    arms.at-Name (none_of (has_name c.args.clocks.now)) c.args.expression.now _ c.in-Name.name c.in-Name.selects c.in-Name.is c.is_no_clock.result c.are_selects_free.result c.is_no_clock.ensures c.are_selects_free.ensures c.both.ensures

pub is_free-returns-in-Concatenation : goal.is_free-returns-in-Concatenation
is_free-returns-in-Concatenation t c =
    arms.at-Concatenation (none_of (has_name c.args.clocks.now)) c.args.expression.now _ c.in-Concatenation.parts c.in-Concatenation.is c.deref.result.now c.deref.ensures.value c.are_parts_free.ensures

pub is_free-returns-in-Replication : goal.is_free-returns-in-Replication
is_free-returns-in-Replication t c =
    arms.at-Replication (none_of (has_name c.args.clocks.now)) c.args.expression.now _ c.in-Replication.count c.in-Replication.parts c.in-Replication.is c.deref-in-Replication.result.now c.deref-in-Replication.ensures c.deref-in-Replication-2.result.now c.deref-in-Replication-2.ensures.value
    c.is_free.result c.are_parts_free-in-Replication.result c.is_free.ensures c.are_parts_free-in-Replication.ensures c.both-in-Replication.ensures

pub is_free-returns-in-AsSigned : goal.is_free-returns-in-AsSigned
is_free-returns-in-AsSigned t c =
    arms.at-AsSigned (none_of (has_name c.args.clocks.now)) c.args.expression.now _ c.deref-in-AsSigned.result.now c.is_free-in-AsSigned.result c.is_free-in-AsSigned.ensures c.in-AsSigned.operand c.in-AsSigned.is c.deref-in-AsSigned.ensures refl

pub is_free-returns-in-AsUnsigned : goal.is_free-returns-in-AsUnsigned
is_free-returns-in-AsUnsigned t c =
    arms.at-AsUnsigned (none_of (has_name c.args.clocks.now)) c.args.expression.now _ c.deref-in-AsUnsigned.result.now c.is_free-in-AsUnsigned.result c.is_free-in-AsUnsigned.ensures c.in-AsUnsigned.operand c.in-AsUnsigned.is c.deref-in-AsUnsigned.ensures refl

pub is_free-returns-in-Prefix : goal.is_free-returns-in-Prefix
is_free-returns-in-Prefix t c =
    arms.at-Prefix (none_of (has_name c.args.clocks.now)) c.args.expression.now _ c.deref-in-Prefix.result.now c.is_free-in-Prefix.result c.is_free-in-Prefix.ensures c.in-Prefix.field-0 c.in-Prefix.operand c.in-Prefix.is c.deref-in-Prefix.ensures refl

pub is_free-returns-in-Binary : goal.is_free-returns-in-Binary
is_free-returns-in-Binary t c =
    arms.at-Binary (none_of (has_name c.args.clocks.now)) c.args.expression.now _ c.deref-in-Binary-2.result.now c.is_free-in-Binary.result c.is_free-in-Binary.ensures
    c.in-Binary.first c.in-Binary.links c.in-Binary.is c.deref-in-Binary-2.ensures c.deref-in-Binary.result.now c.deref-in-Binary.ensures.value c.are_links_free.ensures

pub is_free-returns-in-Test : goal.is_free-returns-in-Test
is_free-returns-in-Test t c =
    arms.at-Test (none_of (has_name c.args.clocks.now)) c.args.expression.now _ c.deref-in-Test-2.result.now c.is_free-in-Test.result c.is_free-in-Test.ensures
    c.in-Test.first c.in-Test.links c.in-Test.is c.deref-in-Test-2.ensures c.deref-in-Test.result.now c.deref-in-Test.ensures.value c.are_tests_free.ensures

pub is_free-returns-in-Conditional : goal.is_free-returns-in-Conditional
is_free-returns-in-Conditional t c =
    arms.at-Conditional (none_of (has_name c.args.clocks.now)) c.args.expression.now _ c.deref-in-Conditional-2.result.now c.is_free-in-Conditional.result c.is_free-in-Conditional.ensures
    c.in-Conditional.choices c.in-Conditional.last c.in-Conditional.is c.deref-in-Conditional-2.ensures c.deref-in-Conditional.result.now c.deref-in-Conditional.ensures.value c.are_choices_free.ensures

pub is_select_free-returns-in-Index : goal.is_select_free-returns-in-Index
is_select_free-returns-in-Index t c =
    arms.at-Index (none_of (has_name c.args.clocks.now)) c.args.select.now c.is_free.result c.in-Index.index c.in-Index.is c.deref.result.now c.deref.ensures c.is_free.ensures

pub is_select_free-returns-in-Part : goal.is_select_free-returns-in-Part
is_select_free-returns-in-Part t c =
    arms.at-Part (none_of (has_name c.args.clocks.now)) c.args.select.now c.both.result c.in-Part.left c.in-Part.right c.deref-in-Part.result.now c.deref-in-Part-2.result.now c.deref-in-Part.ensures c.deref-in-Part-2.ensures
    c.is_free-in-Part.result c.is_free-in-Part-2.result c.is_free-in-Part.ensures c.is_free-in-Part-2.ensures c.both.ensures c.in-Part.is

pub is_select_free-returns-in-PartUp : goal.is_select_free-returns-in-PartUp
is_select_free-returns-in-PartUp t c =
    arms.at-PartUp (none_of (has_name c.args.clocks.now)) c.args.select.now c.both-in-PartUp.result c.in-PartUp.base c.in-PartUp.count c.deref-in-PartUp.result.now c.deref-in-PartUp-2.result.now c.deref-in-PartUp.ensures c.deref-in-PartUp-2.ensures
    c.is_free-in-PartUp.result c.is_free-in-PartUp-2.result c.is_free-in-PartUp.ensures c.is_free-in-PartUp-2.ensures c.both-in-PartUp.ensures c.in-PartUp.is

pub is_select_free-returns-in-PartDown : goal.is_select_free-returns-in-PartDown
is_select_free-returns-in-PartDown t c =
    arms.at-PartDown (none_of (has_name c.args.clocks.now)) c.args.select.now c.both-in-PartDown.result c.in-PartDown.base c.in-PartDown.count c.deref-in-PartDown.result.now c.deref-in-PartDown-2.result.now c.deref-in-PartDown.ensures c.deref-in-PartDown-2.ensures
    c.is_free-in-PartDown.result c.is_free-in-PartDown-2.result c.is_free-in-PartDown.ensures c.is_free-in-PartDown-2.ensures c.both-in-PartDown.ensures c.in-PartDown.is

pub are_selects_free-returns-in-Whole : goal.are_selects_free-returns-in-Whole
are_selects_free-returns-in-Whole t c =
    arms.at-Whole (none_of (has_name c.args.clocks.now)) c.args.selects.now _ c.in-Whole.is refl

pub are_selects_free-returns-in-One : goal.are_selects_free-returns-in-One
are_selects_free-returns-in-One t c =
    arms.at-One (none_of (has_name c.args.clocks.now)) c.args.selects.now c.is_select_free.result c.in-One.select c.in-One.is c.is_select_free.ensures

pub are_selects_free-returns-in-Two : goal.are_selects_free-returns-in-Two
are_selects_free-returns-in-Two t c =
    arms.at-Two (none_of (has_name c.args.clocks.now)) c.args.selects.now c.both.result c.in-Two.first c.in-Two.second c.in-Two.is c.is_select_free-in-Two.result c.is_select_free-in-Two-2.result c.is_select_free-in-Two.ensures c.is_select_free-in-Two-2.ensures c.both.ensures
