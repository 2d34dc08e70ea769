use Rattle.std.proofs.Common.{true, false, refl}
use Rattle.v_syntax.specs.Tree.{statement_of}
use Rattle.v_print.proofs.Loops.{loop_begins, loop_goes_on, loop_ends}
use Rattle.v_print.proofs.Written.{then, as_front}
use Rattle.v_print_source.specs.Shown.{else_if, arms_front, printed_statement, printed_arm, printed_case_item}
use Rattle.v_print_source.proofs.Fronts.{empty_arm, blocking_arm, nonblocking_arm, if_arm, alone_arm, case_arm, block_arm, arm_whole, one_arm, all_arms, values_arm, default_arm, case_items_from, one_case_item, all_case_items, statements_from, one_statement, all_statements}
use Rattle.v_print_source.proofs.statement.+statement.Goals as goal

pub write_statement-returns-in_ok-mark-in-Empty : goal.write_statement-returns-in_ok-mark-in-Empty
write_statement-returns-in_ok-mark-in-Empty t c = as_front (empty_arm c.args.colons c.args.statement.now c.in-Empty.is) c.in_ok-mark-in-Empty.ensures

pub write_statement-returns-in_ok-mark-in-Blocking : goal.write_statement-returns-in_ok-mark-in-Blocking
write_statement-returns-in_ok-mark-in-Blocking t c = as_front (blocking_arm c.args.colons c.args.statement.now c.in-Blocking.target c.in-Blocking.value c.in-Blocking.is c.deref.result.now c.deref.ensures) (then c.in_ok-write_assignment-in-Blocking.ensures c.in_ok-mark-in-Blocking.ensures)

pub write_statement-returns-in_ok-mark-in-Nonblocking : goal.write_statement-returns-in_ok-mark-in-Nonblocking
write_statement-returns-in_ok-mark-in-Nonblocking t c = as_front (nonblocking_arm c.args.colons c.args.statement.now c.in-Nonblocking.target c.in-Nonblocking.value c.in-Nonblocking.is c.deref-in-Nonblocking.result.now c.deref-in-Nonblocking.ensures) (then c.in_ok-write_assignment-in-Nonblocking.ensures c.in_ok-mark-in-Nonblocking.ensures)

pub write_statement-returns-in_ok-write_statement-in-Some : goal.write_statement-returns-in_ok-write_statement-in-Some
write_statement-returns-in_ok-write_statement-in-Some t c =
    as_front (if_arm c.args.colons c.args.statement.now c.in-If.arms c.in-If.last c.in-Some.other c.deref-in-Some-4.result.now c.deref-in-Some-2.result.now c.deref-in-Some-3.result.now c.in-If.is c.in-Some.is c.deref-in-Some-4.ensures c.deref-in-Some-2.ensures.value c.deref-in-Some-3.ensures.value)
    (then c.in_ok-write_arms-in-Some.ensures (then c.in_ok-write_last_else-in-Some.ensures (then c.in_ok-gap-in-Some.ensures c.in_ok-write_statement-in-Some.ensures)))

pub write_statement-returns-in_ok-write_nothing-in-None : goal.write_statement-returns-in_ok-write_nothing-in-None
write_statement-returns-in_ok-write_nothing-in-None t c =
    as_front (alone_arm c.args.colons c.args.statement.now c.in-If.arms c.in-If.last c.deref-in-None.result.now c.deref-in-None-2.result.now c.in-If.is c.in-None.is c.deref-in-None.ensures.value c.deref-in-None-2.ensures.value)
    (then c.in_ok-write_arms-in-None.ensures c.in_ok-write_nothing-in-None.ensures)

pub write_statement-returns-in_ok-word-in-Case : goal.write_statement-returns-in_ok-word-in-Case
write_statement-returns-in_ok-word-in-Case t c =
    as_front (case_arm c.args.colons c.args.statement.now c.in-Case.kind c.in-Case.value c.in-Case.items c.case_word.result.now c.deref-in-Case.result.now c.in-Case.is c.case_word.ensures c.deref-in-Case.ensures.value)
    (then c.in_ok-write_head-in-Case.ensures (then c.in_ok-write_case_items-in-Case.ensures (then c.in_ok-begin_line-in-Case.ensures c.in_ok-word-in-Case.ensures)))

pub write_statement-returns-in_ok-word-in-Block-2 : goal.write_statement-returns-in_ok-word-in-Block-2
write_statement-returns-in_ok-word-in-Block-2 t c =
    as_front (block_arm c.args.colons c.args.statement.now c.in-Block.name c.in-Block.statements c.deref-in-Block.result.now c.in-Block.is c.deref-in-Block.ensures.value)
    (then c.in_ok-word-in-Block.ensures (then c.in_ok-write_block_name-in-Block.ensures (then c.in_ok-write_statements-in-Block.ensures (then c.in_ok-begin_line-in-Block.ensures c.in_ok-word-in-Block-2.ensures))))

pub write_arms-loop-arm-init : goal.write_arms-loop-arm-init
write_arms-loop-arm-init t c = loop_begins (arms_front c.args.colons) c.args.arms.now false c.args.out.now

pub write_arms-loop-arm-preserved : goal.write_arms-loop-arm-preserved
write_arms-loop-arm-preserved t c =
    loop_goes_on (arms_front c.args.colons) c.args.arms.now c.loop-arm.arm-index c.arm-item.result c.loop-arm.started true (λ r. else_if c.loop-arm.started (printed_arm c.args.colons c.arm-item.result r)) c.loop-arm-test.true
    c.arm-item.is (one_arm c.args.colons c.loop-arm.started c.arm-item.result) c.loop-arm.invariant (then c.in_ok-write_else.ensures c.in_ok-write_arm.ensures)

pub write_arms-returns : goal.write_arms-returns
write_arms-returns t c = as_front (all_arms c.args.colons c.args.arms.now) (loop_ends (arms_front c.args.colons) c.args.arms.now c.loop-arm.arm-index c.loop-arm.started c.loop-arm-test.false (λ r. refl) c.loop-arm.invariant)

pub write_arm-returns : goal.write_arm-returns
write_arm-returns t c = as_front (arm_whole c.args.colons c.args.arm.now) (then c.in_ok-write_head.ensures (then c.in_ok-gap.ensures c.in_ok-write_statement.ensures))

pub write_case_items-loop-item-init : goal.write_case_items-loop-item-init
write_case_items-loop-item-init t c = loop_begins (case_items_from c.args.colons) c.args.items.now true c.args.out.now

pub write_case_items-loop-item-preserved : goal.write_case_items-loop-item-preserved
write_case_items-loop-item-preserved t c =
    loop_goes_on (case_items_from c.args.colons) c.args.items.now c.loop-item.item-index c.item-item.result true true (λ r. printed_case_item c.args.colons c.item-item.result r) c.loop-item-test.true
    c.item-item.is (one_case_item c.args.colons c.item-item.result) c.loop-item.invariant (then c.in_ok-begin_line.ensures c.in_ok-write_case_item.ensures)

pub write_case_items-returns : goal.write_case_items-returns
write_case_items-returns t c = as_front (all_case_items c.args.colons c.args.items.now) (loop_ends (case_items_from c.args.colons) c.args.items.now c.loop-item.item-index true c.loop-item-test.false (λ r. refl) c.loop-item.invariant)

pub write_case_item-returns-in_ok-write_statement-in-Values : goal.write_case_item-returns-in_ok-write_statement-in-Values
write_case_item-returns-in_ok-write_statement-in-Values t c =
    as_front (values_arm c.args.colons c.args.item.now c.in-Values.values c.in-Values.statement c.deref.result.now c.in-Values.is c.deref.ensures.value)
    (then c.in_ok-write_parts-in-Values.ensures (then c.in_ok-mark-in-Values.ensures (then c.in_ok-gap-in-Values.ensures c.in_ok-write_statement-in-Values.ensures)))

pub write_case_item-returns-in_ok-write_statement-in-Default : goal.write_case_item-returns-in_ok-write_statement-in-Default
write_case_item-returns-in_ok-write_statement-in-Default t c =
    as_front (default_arm c.args.colons c.args.item.now c.in-Default.statement c.in-Default.is)
    (then c.in_ok-word-in-Default.ensures (then c.in_ok-mark_if-in-Default.ensures (then c.in_ok-gap-in-Default.ensures c.in_ok-write_statement-in-Default.ensures)))

pub write_statements-loop-statement-init : goal.write_statements-loop-statement-init
write_statements-loop-statement-init t c = loop_begins (statements_from c.args.colons) c.args.statements.now true c.args.out.now

pub write_statements-loop-statement-preserved : goal.write_statements-loop-statement-preserved
write_statements-loop-statement-preserved t c =
    loop_goes_on (statements_from c.args.colons) c.args.statements.now c.loop-statement.statement-index c.statement-item.result true true (λ r. printed_statement c.args.colons (statement_of c.statement-item.result) r) c.loop-statement-test.true
    c.statement-item.is (one_statement c.args.colons c.statement-item.result) c.loop-statement.invariant (then c.in_ok-begin_line.ensures c.in_ok-write_statement.ensures)

pub write_statements-returns : goal.write_statements-returns
write_statements-returns t c = as_front (all_statements c.args.colons c.args.statements.now) (loop_ends (statements_from c.args.colons) c.args.statements.now c.loop-statement.statement-index true c.loop-statement-test.false (λ r. refl) c.loop-statement.invariant)
