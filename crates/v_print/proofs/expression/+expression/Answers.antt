use Rattle.std.proofs.Common.{true, false, refl}
use Rattle.std.proofs.lemmas.Result.{on_ok_weaker}
use Rattle.v_token.specs.View.{mark_of}
use Rattle.v_syntax.specs.Tree.{tree_of}
use Rattle.v_print.specs.Spelled.{parted, printed}
use Rattle.v_print.specs.Links.{links_before, tests_before, printed_link, printed_test, printed_choice}
use Rattle.v_print.proofs.Arms.{number_arm, name_arm, parts_arm, copies_arm, signed_arm, unsigned_arm, prefix_arm, binary_arm, test_arm, choices_arm, link_arm, test_link_arm, choice_arm, parts_front, one_part, all_parts, one_link, all_links, one_test, all_tests, choices_front, one_choice, all_choices, index_arm, part_arm, up_arm, down_arm, whole_arm, one_arm, two_arm}
use Rattle.v_print.proofs.Loops.{loop_begins, loop_goes_on, loop_ends}
use Rattle.v_print.proofs.Written.{then, as_front, nothing_written}
use Rattle.v_print.proofs.expression.+expression.Goals as goal

pub write-returns-in-Number : goal.write-returns-in-Number
write-returns-in-Number t c = on_ok_weaker c.write_number.result (as_front (number_arm c.args.expression.now c.in-Number.number c.in-Number.is)) c.write_number.ensures

pub write-returns-in_ok-write_selects-in-Name : goal.write-returns-in_ok-write_selects-in-Name
write-returns-in_ok-write_selects-in-Name t c = as_front (name_arm c.args.expression.now c.in-Name.name c.in-Name.selects c.in-Name.is) (then c.in_ok-word-in-Name.ensures c.in_ok-write_selects-in-Name.ensures)

pub write-returns-in-Concatenation : goal.write-returns-in-Concatenation
write-returns-in-Concatenation t c = on_ok_weaker c.write_braced.result (as_front (parts_arm c.args.expression.now c.in-Concatenation.parts c.deref.result.now c.in-Concatenation.is c.deref.ensures.value)) c.write_braced.ensures

pub write-returns-in_ok-mark-in-Replication-2 : goal.write-returns-in_ok-mark-in-Replication-2
write-returns-in_ok-mark-in-Replication-2 t c = as_front (copies_arm c.args.expression.now c.in-Replication.count c.in-Replication.parts c.deref-in-Replication.result.now c.deref-in-Replication-2.result.now c.in-Replication.is c.deref-in-Replication.ensures c.deref-in-Replication-2.ensures.value) (then c.in_ok-mark-in-Replication.ensures (then c.in_ok-write-in-Replication.ensures (then c.in_ok-write_braced-in-Replication.ensures c.in_ok-mark-in-Replication-2.ensures)))

pub write-returns-in_ok-mark-in-AsSigned : goal.write-returns-in_ok-mark-in-AsSigned
write-returns-in_ok-mark-in-AsSigned t c = as_front (signed_arm c.args.expression.now c.in-AsSigned.operand c.deref-in-AsSigned.result.now c.in-AsSigned.is c.deref-in-AsSigned.ensures) (then c.in_ok-open_conversion-in-AsSigned.ensures (then c.in_ok-write-in-AsSigned.ensures c.in_ok-mark-in-AsSigned.ensures))

pub write-returns-in_ok-mark-in-AsUnsigned : goal.write-returns-in_ok-mark-in-AsUnsigned
write-returns-in_ok-mark-in-AsUnsigned t c = as_front (unsigned_arm c.args.expression.now c.in-AsUnsigned.operand c.deref-in-AsUnsigned.result.now c.in-AsUnsigned.is c.deref-in-AsUnsigned.ensures) (then c.in_ok-open_conversion-in-AsUnsigned.ensures (then c.in_ok-write-in-AsUnsigned.ensures c.in_ok-mark-in-AsUnsigned.ensures))

pub write-returns-in_ok-close_if-in-Prefix : goal.write-returns-in_ok-close_if-in-Prefix
write-returns-in_ok-close_if-in-Prefix t c = as_front (prefix_arm c.args.expression.now c.in-Prefix.operators c.in-Prefix.operand c.deref-in-Prefix.result.now c.deref-in-Prefix-4.result.now c.deref-in-Prefix-2.result.now c.deref-in-Prefix-3.result.now c.level_of.result c.prefix_level.result c.in-Prefix.is c.deref-in-Prefix.ensures c.deref-in-Prefix-4.ensures c.deref-in-Prefix-2.ensures.value c.deref-in-Prefix-3.ensures.value c.level_of.ensures c.prefix_level.ensures) (then c.in_ok-write_prefixes-in-Prefix.ensures (then c.in_ok-open_if-in-Prefix.ensures (then c.in_ok-write-in-Prefix.ensures c.in_ok-close_if-in-Prefix.ensures)))

pub write-returns-in_ok-write_links-in-Binary : goal.write-returns-in_ok-write_links-in-Binary
write-returns-in_ok-write_links-in-Binary t c = as_front (binary_arm c.args.expression.now c.in-Binary.first c.in-Binary.links c.deref-in-Binary.result.now c.deref-in-Binary-3.result.now c.deref-in-Binary-2.result.now c.deref-in-Binary-4.result.now c.level_of-level.result c.in-Binary.is c.deref-in-Binary.ensures c.deref-in-Binary-2.ensures.value c.deref-in-Binary-3.ensures c.deref-in-Binary-4.ensures.value c.level_of-level.ensures) (then c.in_ok-open_links-in-Binary.ensures (then c.in_ok-write-in-Binary.ensures c.in_ok-write_links-in-Binary.ensures))

pub write-returns-in_ok-write_tests-in-Test : goal.write-returns-in_ok-write_tests-in-Test
write-returns-in_ok-write_tests-in-Test t c = as_front (test_arm c.args.expression.now c.in-Test.first c.in-Test.links c.deref-in-Test.result.now c.deref-in-Test-3.result.now c.deref-in-Test-2.result.now c.deref-in-Test-4.result.now c.level_of-level-in-Test.result c.in-Test.is c.deref-in-Test.ensures c.deref-in-Test-2.ensures.value c.deref-in-Test-3.ensures c.deref-in-Test-4.ensures.value c.level_of-level-in-Test.ensures) (then c.in_ok-open_tests-in-Test.ensures (then c.in_ok-write-in-Test.ensures c.in_ok-write_tests-in-Test.ensures))

pub write-returns-in_ok-write-in-Conditional : goal.write-returns-in_ok-write-in-Conditional
write-returns-in_ok-write-in-Conditional t c = as_front (choices_arm c.args.expression.now c.in-Conditional.choices c.in-Conditional.last c.deref-in-Conditional.result.now c.deref-in-Conditional-2.result.now c.in-Conditional.is c.deref-in-Conditional.ensures.value c.deref-in-Conditional-2.ensures) (then c.in_ok-write_choices-in-Conditional.ensures c.in_ok-write-in-Conditional.ensures)

pub write_braced-returns : goal.write_braced-returns
write_braced-returns t c = then c.in_ok-mark.ensures (then c.in_ok-write_parts.ensures c.in_ok-mark-2.ensures)

pub write_choice-returns : goal.write_choice-returns
write_choice-returns t c = as_front (choice_arm c.level_of-brackets.result c.args.choice.now c.level_of-brackets.ensures) (then c.in_ok-open_if.ensures (then c.in_ok-write.ensures (then c.in_ok-close_if.ensures (then c.in_ok-between.ensures (then c.in_ok-write-2.ensures c.in_ok-between-2.ensures)))))

pub write_link-returns : goal.write_link-returns
write_link-returns t c = as_front (link_arm c.args.level c.link_level-own.result c.level_of.result (mark_of c.link_mark.result) c.args.link.now c.link_level-own.ensures c.level_of.ensures c.link_mark.ensures) (then c.in_ok-close_if.ensures (then c.in_ok-between.ensures (then c.in_ok-open_if.ensures (then c.in_ok-write.ensures c.in_ok-close_if-2.ensures))))

pub write_test-returns : goal.write_test-returns
write_test-returns t c = as_front (test_link_arm c.args.level c.test_level-own.result c.level_of.result (mark_of c.test_mark.result) c.args.link.now c.test_level-own.ensures c.level_of.ensures c.test_mark.ensures) (then c.in_ok-close_if.ensures (then c.in_ok-between.ensures (then c.in_ok-open_if.ensures (then c.in_ok-write.ensures c.in_ok-close_if-2.ensures))))

pub write_parts-loop-part-init : goal.write_parts-loop-part-init
write_parts-loop-part-init t c = loop_begins parts_front c.args.parts.now false c.args.out.now

pub write_parts-loop-part-preserved : goal.write_parts-loop-part-preserved
write_parts-loop-part-preserved t c = loop_goes_on parts_front c.args.parts.now c.loop-part.part-index c.part-item.result c.loop-part.started true (λ r. parted c.loop-part.started (printed (tree_of c.part-item.result) r)) c.loop-part-test.true c.part-item.is (one_part c.loop-part.started c.part-item.result) c.loop-part.invariant (then c.in_ok-comma_if.ensures c.in_ok-write.ensures)

pub write_parts-returns : goal.write_parts-returns
write_parts-returns t c = as_front (all_parts c.args.parts.now) (loop_ends parts_front c.args.parts.now c.loop-part.part-index c.loop-part.started c.loop-part-test.false (λ r. refl) c.loop-part.invariant)

pub write_links-loop-link-init : goal.write_links-loop-link-init
write_links-loop-link-init t c = loop_begins links_before c.args.links.now c.args.first c.args.out.now

pub write_links-loop-link-preserved : goal.write_links-loop-link-preserved
write_links-loop-link-preserved t c = loop_goes_on links_before c.args.links.now c.loop-link.link-index c.link-item.result c.loop-link.level c.link_level-level.result (λ r. printed_link c.loop-link.level c.link-item.result r) c.loop-link-test.true c.link-item.is (one_link c.loop-link.level c.link_level-level.result c.link-item.result c.link_level-level.ensures) c.loop-link.invariant c.in_ok-write_link.ensures

pub write_links-returns : goal.write_links-returns
write_links-returns t c = as_front (all_links c.args.first c.args.links.now) (loop_ends links_before c.args.links.now c.loop-link.link-index c.loop-link.level c.loop-link-test.false (λ r. refl) c.loop-link.invariant)

pub write_tests-loop-link-init : goal.write_tests-loop-link-init
write_tests-loop-link-init t c = loop_begins tests_before c.args.links.now c.args.first c.args.out.now

pub write_tests-loop-link-preserved : goal.write_tests-loop-link-preserved
write_tests-loop-link-preserved t c = loop_goes_on tests_before c.args.links.now c.loop-link.link-index c.link-item.result c.loop-link.level c.test_level-level.result (λ r. printed_test c.loop-link.level c.link-item.result r) c.loop-link-test.true c.link-item.is (one_test c.loop-link.level c.test_level-level.result c.link-item.result c.test_level-level.ensures) c.loop-link.invariant c.in_ok-write_test.ensures

pub write_tests-returns : goal.write_tests-returns
write_tests-returns t c = as_front (all_tests c.args.first c.args.links.now) (loop_ends tests_before c.args.links.now c.loop-link.link-index c.loop-link.level c.loop-link-test.false (λ r. refl) c.loop-link.invariant)

pub write_choices-loop-choice-init : goal.write_choices-loop-choice-init
write_choices-loop-choice-init t c = loop_begins choices_front c.args.choices.now true c.args.out.now

pub write_choices-loop-choice-preserved : goal.write_choices-loop-choice-preserved
write_choices-loop-choice-preserved t c = loop_goes_on choices_front c.args.choices.now c.loop-choice.choice-index c.choice-item.result true true (λ r. printed_choice c.choice-item.result r) c.loop-choice-test.true c.choice-item.is (one_choice c.choice-item.result) c.loop-choice.invariant c.in_ok-write_choice.ensures

pub write_choices-returns : goal.write_choices-returns
write_choices-returns t c = as_front (all_choices c.args.choices.now) (loop_ends choices_front c.args.choices.now c.loop-choice.choice-index true c.loop-choice-test.false (λ r. refl) c.loop-choice.invariant)

pub write_select-returns-in_ok-mark-in-Index : goal.write_select-returns-in_ok-mark-in-Index
write_select-returns-in_ok-mark-in-Index t c = as_front (index_arm c.args.select.now c.in-Index.index c.deref.result.now c.in-Index.is c.deref.ensures) (then c.in_ok-mark.ensures (then c.in_ok-write-in-Index.ensures c.in_ok-mark-in-Index.ensures))

pub write_select-returns-in_ok-mark-in-Part-2 : goal.write_select-returns-in_ok-mark-in-Part-2
write_select-returns-in_ok-mark-in-Part-2 t c = as_front (part_arm c.args.select.now c.in-Part.left c.in-Part.right c.deref-in-Part.result.now c.deref-in-Part-2.result.now c.in-Part.is c.deref-in-Part.ensures c.deref-in-Part-2.ensures) (then c.in_ok-mark.ensures (then c.in_ok-write-in-Part.ensures (then c.in_ok-mark-in-Part.ensures (then c.in_ok-write-in-Part-2.ensures c.in_ok-mark-in-Part-2.ensures))))

pub write_select-returns-in_ok-mark-in-PartUp : goal.write_select-returns-in_ok-mark-in-PartUp
write_select-returns-in_ok-mark-in-PartUp t c = as_front (up_arm c.args.select.now c.in-PartUp.base c.in-PartUp.width c.deref-in-PartUp.result.now c.deref-in-PartUp-2.result.now c.in-PartUp.is c.deref-in-PartUp.ensures c.deref-in-PartUp-2.ensures) (then c.in_ok-mark.ensures (then c.in_ok-write-in-PartUp.ensures (then c.in_ok-between-in-PartUp.ensures (then c.in_ok-write-in-PartUp-2.ensures c.in_ok-mark-in-PartUp.ensures))))

pub write_select-returns-in_ok-mark-in-PartDown : goal.write_select-returns-in_ok-mark-in-PartDown
write_select-returns-in_ok-mark-in-PartDown t c = as_front (down_arm c.args.select.now c.in-PartDown.base c.in-PartDown.width c.deref-in-PartDown.result.now c.deref-in-PartDown-2.result.now c.in-PartDown.is c.deref-in-PartDown.ensures c.deref-in-PartDown-2.ensures) (then c.in_ok-mark.ensures (then c.in_ok-write-in-PartDown.ensures (then c.in_ok-between-in-PartDown.ensures (then c.in_ok-write-in-PartDown-2.ensures c.in_ok-mark-in-PartDown.ensures))))

pub write_selects-returns-in-Whole : goal.write_selects-returns-in-Whole
write_selects-returns-in-Whole t c = as_front (whole_arm c.args.selects.now c.in-Whole.is) (nothing_written c.args.out.now)

pub write_selects-returns-in-One : goal.write_selects-returns-in-One
write_selects-returns-in-One t c = on_ok_weaker c.write_select.result (as_front (one_arm c.args.selects.now c.in-One.select c.in-One.is)) c.write_select.ensures

pub write_selects-returns-in_ok-write_select-in-Two-2 : goal.write_selects-returns-in_ok-write_select-in-Two-2
write_selects-returns-in_ok-write_select-in-Two-2 t c = as_front (two_arm c.args.selects.now c.in-Two.first c.in-Two.second c.in-Two.is) (then c.in_ok-write_select-in-Two.ensures c.in_ok-write_select-in-Two-2.ensures)
