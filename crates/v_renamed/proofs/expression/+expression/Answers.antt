use Rattle.v_renamed.specs.NewNames.{new_name}
use Rattle.v_syntax.specs.Tree.{tree_of}
use Rattle.v_renamed.specs.Copies.{link_of, test_of, choice_of, part_under, link_under, test_under, choice_under}
use Rattle.v_renamed.proofs.Arms as arms
use Rattle.verilog_renamed.proofs.Paths.{ap2}
use Rattle.v_renamed.proofs.Turns.{turn, end}
use Rattle.std.proofs.Common.{◌∙◌, ap, arith}
use Rattle.v_renamed.proofs.expression.+expression.Goals as goal

pub copy-returns-in-Number : goal.copy-returns-in-Number
copy-returns-in-Number t c =
    arms.number-copied (new_name c.args.names.now) c.args.tree.now c.in-Number.number c.in-Number.is

pub copy-returns-in_ok-selects-in-Name : goal.copy-returns-in_ok-selects-in-Name
copy-returns-in_ok-selects-in-Name t c =
    arms.name-copied (new_name c.args.names.now) c.args.tree.now c.in-Name.name c.name_for.result c.in-Name.selects c.in_ok-selects-in-Name.selects c.in-Name.is c.name_for.ensures c.in_ok-selects-in-Name.ensures

pub copy-returns-in_ok-parts-in-Concatenation : goal.copy-returns-in_ok-parts-in-Concatenation
copy-returns-in_ok-parts-in-Concatenation t c =
    arms.concatenation-copied (new_name c.args.names.now) c.args.tree.now c.in-Concatenation.parts c.in_ok-parts-in-Concatenation.parts c.deref.result.now c.in-Concatenation.is c.deref.ensures.value c.in_ok-parts-in-Concatenation.ensures

pub copy-returns-in_ok-parts-in-Replication : goal.copy-returns-in_ok-parts-in-Replication
copy-returns-in_ok-parts-in-Replication t c =
    arms.replication-copied (new_name c.args.names.now) c.args.tree.now c.deref-in-Replication.result.now c.in-Replication.count c.in_ok-count-in-Replication.count c.in-Replication.parts c.in_ok-parts-in-Replication.parts c.deref-in-Replication-2.result.now
    c.in-Replication.is c.deref-in-Replication.ensures c.deref-in-Replication-2.ensures.value c.in_ok-count-in-Replication.ensures c.in_ok-parts-in-Replication.ensures

pub copy-returns-in_ok-operand-in-AsSigned : goal.copy-returns-in_ok-operand-in-AsSigned
copy-returns-in_ok-operand-in-AsSigned t c =
    arms.signed-copied (new_name c.args.names.now) c.args.tree.now c.deref-in-AsSigned.result.now c.in-AsSigned.operand c.in_ok-operand-in-AsSigned.operand c.in-AsSigned.is c.deref-in-AsSigned.ensures c.in_ok-operand-in-AsSigned.ensures

pub copy-returns-in_ok-operand-in-AsUnsigned : goal.copy-returns-in_ok-operand-in-AsUnsigned
copy-returns-in_ok-operand-in-AsUnsigned t c =
    arms.unsigned-copied (new_name c.args.names.now) c.args.tree.now c.deref-in-AsUnsigned.result.now c.in-AsUnsigned.operand c.in_ok-operand-in-AsUnsigned.operand c.in-AsUnsigned.is c.deref-in-AsUnsigned.ensures c.in_ok-operand-in-AsUnsigned.ensures

pub copy-returns-in_ok-operators-in-Prefix : goal.copy-returns-in_ok-operators-in-Prefix
copy-returns-in_ok-operators-in-Prefix t c =
    arms.prefix-copied (new_name c.args.names.now) c.args.tree.now c.deref-in-Prefix.result.now c.in-Prefix.operand c.in_ok-operand-in-Prefix.operand c.in-Prefix.operators c.in_ok-operators-in-Prefix.operators c.deref-in-Prefix-2.result.now
    c.in-Prefix.is c.deref-in-Prefix.ensures c.deref-in-Prefix-2.ensures.value c.in_ok-operand-in-Prefix.ensures c.in_ok-operators-in-Prefix.ensures

pub copy-returns-in_ok-links-in-Binary : goal.copy-returns-in_ok-links-in-Binary
copy-returns-in_ok-links-in-Binary t c =
    arms.binary-copied (new_name c.args.names.now) c.args.tree.now c.deref-in-Binary.result.now c.in-Binary.first c.in_ok-first-in-Binary.first c.in-Binary.links c.in_ok-links-in-Binary.links c.deref-in-Binary-2.result.now
    c.in-Binary.is c.deref-in-Binary.ensures c.deref-in-Binary-2.ensures.value c.in_ok-first-in-Binary.ensures c.in_ok-links-in-Binary.ensures

pub copy-returns-in_ok-links-in-Test : goal.copy-returns-in_ok-links-in-Test
copy-returns-in_ok-links-in-Test t c =
    arms.test-copied (new_name c.args.names.now) c.args.tree.now c.deref-in-Test.result.now c.in-Test.first c.in_ok-first-in-Test.first c.in-Test.links c.in_ok-links-in-Test.links c.deref-in-Test-2.result.now
    c.in-Test.is c.deref-in-Test.ensures c.deref-in-Test-2.ensures.value c.in_ok-first-in-Test.ensures c.in_ok-links-in-Test.ensures

pub copy-returns-in_ok-choices-in-Conditional : goal.copy-returns-in_ok-choices-in-Conditional
copy-returns-in_ok-choices-in-Conditional t c =
    arms.conditional-copied (new_name c.args.names.now) c.args.tree.now c.deref-in-Conditional.result.now c.in-Conditional.last c.in_ok-last-in-Conditional.last c.in-Conditional.choices c.in_ok-choices-in-Conditional.choices c.deref-in-Conditional-2.result.now
    c.in-Conditional.is c.deref-in-Conditional.ensures c.deref-in-Conditional-2.ensures.value c.in_ok-last-in-Conditional.ensures c.in_ok-choices-in-Conditional.ensures

pub copy_select-returns-in_ok-index-in-Index : goal.copy_select-returns-in_ok-index-in-Index
copy_select-returns-in_ok-index-in-Index t c =
    arms.index-copied (new_name c.args.names.now) c.args.select.now c.deref.result.now c.in-Index.index c.in_ok-index-in-Index.index c.in-Index.is c.deref.ensures c.in_ok-index-in-Index.ensures

pub copy_select-returns-in_ok-right-in-Part : goal.copy_select-returns-in_ok-right-in-Part
copy_select-returns-in_ok-right-in-Part t c =
    arms.part-copied (new_name c.args.names.now) c.args.select.now c.deref-in-Part.result.now c.deref-in-Part-2.result.now c.in-Part.left c.in-Part.right c.in_ok-left-in-Part.left c.in_ok-right-in-Part.right
    c.in-Part.is c.deref-in-Part.ensures c.deref-in-Part-2.ensures c.in_ok-left-in-Part.ensures c.in_ok-right-in-Part.ensures

pub copy_select-returns-in_ok-width-in-PartUp : goal.copy_select-returns-in_ok-width-in-PartUp
copy_select-returns-in_ok-width-in-PartUp t c =
    arms.part_up-copied (new_name c.args.names.now) c.args.select.now c.deref-in-PartUp.result.now c.deref-in-PartUp-2.result.now c.in-PartUp.base c.in-PartUp.width c.in_ok-base-in-PartUp.base c.in_ok-width-in-PartUp.width
    c.in-PartUp.is c.deref-in-PartUp.ensures c.deref-in-PartUp-2.ensures c.in_ok-base-in-PartUp.ensures c.in_ok-width-in-PartUp.ensures

pub copy_select-returns-in_ok-width-in-PartDown : goal.copy_select-returns-in_ok-width-in-PartDown
copy_select-returns-in_ok-width-in-PartDown t c =
    arms.part_down-copied (new_name c.args.names.now) c.args.select.now c.deref-in-PartDown.result.now c.deref-in-PartDown-2.result.now c.in-PartDown.base c.in-PartDown.width c.in_ok-base-in-PartDown.base c.in_ok-width-in-PartDown.width
    c.in-PartDown.is c.deref-in-PartDown.ensures c.deref-in-PartDown-2.ensures c.in_ok-base-in-PartDown.ensures c.in_ok-width-in-PartDown.ensures

pub copy_selects-returns-in-Whole : goal.copy_selects-returns-in-Whole
copy_selects-returns-in-Whole t c =
    arms.whole-copied (new_name c.args.names.now) c.args.selects.now c.in-Whole.is

pub copy_selects-returns-in_ok-select-in-One : goal.copy_selects-returns-in_ok-select-in-One
copy_selects-returns-in_ok-select-in-One t c =
    arms.one-copied (new_name c.args.names.now) c.args.selects.now c.in-One.select c.in_ok-select-in-One.select c.in-One.is c.in_ok-select-in-One.ensures

pub copy_selects-returns-in_ok-second-in-Two : goal.copy_selects-returns-in_ok-second-in-Two
copy_selects-returns-in_ok-second-in-Two t c =
    arms.two-copied (new_name c.args.names.now) c.args.selects.now c.in-Two.first c.in-Two.second c.in_ok-first-in-Two.first c.in_ok-second-in-Two.second c.in-Two.is c.in_ok-first-in-Two.ensures c.in_ok-second-in-Two.ensures

pub copy_parts-loop-part-preserved : goal.copy_parts-loop-part-preserved
copy_parts-loop-part-preserved t c =
    turn tree_of (part_under (new_name c.args.names.now)) c.args.parts.now c.loop-part.part-index _ c.loop-part.copies.items c.push.new.self.items c.in_ok-part.part (omega arith)
    c.loop-part.invariant (c.in_ok-part.ensures ∙ ap (part_under (new_name c.args.names.now)) c.part-item.is) c.in_ok-push.ensures.items

pub copy_parts-returns : goal.copy_parts-returns
copy_parts-returns t c =
    end tree_of (part_under (new_name c.args.names.now)) c.args.parts.now c.loop-part.part-index c.loop-part.copies.items (omega arith) c.loop-part.invariant

pub copy_links-loop-link-preserved : goal.copy_links-loop-link-preserved
copy_links-loop-link-preserved t c =
    turn link_of (link_under (new_name c.args.names.now)) c.args.links.now c.loop-link.link-index _ c.loop-link.copies.items c.push.new.self.items _ (omega arith)
    c.loop-link.invariant (ap (λ e. (c.link-item.result.operator, e)) c.in_ok-operand.ensures ∙ ap (link_under (new_name c.args.names.now)) c.link-item.is) c.in_ok-push.ensures.items

pub copy_links-returns : goal.copy_links-returns
copy_links-returns t c =
    end link_of (link_under (new_name c.args.names.now)) c.args.links.now c.loop-link.link-index c.loop-link.copies.items (omega arith) c.loop-link.invariant

pub copy_tests-loop-link-preserved : goal.copy_tests-loop-link-preserved
copy_tests-loop-link-preserved t c =
    turn test_of (test_under (new_name c.args.names.now)) c.args.links.now c.loop-link.link-index _ c.loop-link.copies.items c.push.new.self.items _ (omega arith)
    c.loop-link.invariant (ap (λ e. (c.link-item.result.operator, e)) c.in_ok-operand.ensures ∙ ap (test_under (new_name c.args.names.now)) c.link-item.is) c.in_ok-push.ensures.items

pub copy_tests-returns : goal.copy_tests-returns
copy_tests-returns t c =
    end test_of (test_under (new_name c.args.names.now)) c.args.links.now c.loop-link.link-index c.loop-link.copies.items (omega arith) c.loop-link.invariant

pub copy_choices-loop-choice-preserved : goal.copy_choices-loop-choice-preserved
copy_choices-loop-choice-preserved t c =
    turn choice_of (choice_under (new_name c.args.names.now)) c.args.choices.now c.loop-choice.choice-index _ c.loop-choice.copies.items c.push.new.self.items _ (omega arith)
    c.loop-choice.invariant (ap2 (λ e d. (e, d)) c.in_ok-condition.ensures c.in_ok-value.ensures ∙ ap (choice_under (new_name c.args.names.now)) c.choice-item.is) c.in_ok-push.ensures.items

pub copy_choices-returns : goal.copy_choices-returns
copy_choices-returns t c =
    end choice_of (choice_under (new_name c.args.names.now)) c.args.choices.now c.loop-choice.choice-index c.loop-choice.copies.items (omega arith) c.loop-choice.invariant
