use Rattle.std.proofs.Common.{arith, ◌+◌, ◌∙◌, ap, sym, drop, Some, None}
use Rattle.std.specs.Prelude.{◌||◌}
use Rattle.v_syntax.specs.Tree.{statement_of}
use Rattle.v_statement.specs.Statements.{statement_list}
use Rattle.v_statement.specs.Effects.{item_list, item_statement}
use Rattle.v_statement.proofs.Runs.{statement_of-Case, statement_of-Block, rest_is}
use Rattle.verilog_designs.specs.Paths.{has_blocking, one_has_blocking, an_arm_has_blocking, has_nonblocking, one_has_nonblocking, an_arm_has_nonblocking}
use Rattle.v_blocks.specs.Arms.{one_arm_has}
use Rattle.v_blocks.proofs.Statements.{or_false, or_is, turn, blocking_if, nonblocking_if, blocking_item, nonblocking_item}
use Rattle.v_blocks.proofs.assignments.+found.Goals as goal

pub assignments_in-returns-in-Some-clause-blocking : goal.assignments_in-returns-in-Some-clause-blocking
assignments_in-returns-in-Some-clause-blocking t c =
    or_is _ _ _ _ _ c.or.ensures.blocking (c.in_arms-found.ensures.blocking ∙ ap (one_arm_has has_blocking) c.deref.ensures.value)
    (c.assignments_in.ensures.blocking ∙ ap (λ x. has_blocking (statement_of x)) c.deref-in-Some.ensures)
    ∙ sym (blocking_if c.args.statement.now c.in-If.arms c.in-If.last (Some c.in-Some.other) c.in-If.is c.in-Some.is)

pub assignments_in-returns-in-None-clause-blocking : goal.assignments_in-returns-in-None-clause-blocking
assignments_in-returns-in-None-clause-blocking t c =
    c.in_arms-found.ensures.blocking ∙ ap (one_arm_has has_blocking) c.deref.ensures.value ∙ or_false (one_arm_has has_blocking c.in-If.arms.items)
    ∙ sym (blocking_if c.args.statement.now c.in-If.arms c.in-If.last None c.in-If.is c.in-None.is)

pub assignments_in-returns-in-Case-clause-blocking : goal.assignments_in-returns-in-Case-clause-blocking
assignments_in-returns-in-Case-clause-blocking t c =
    c.in_items.ensures.blocking ∙ ap (λ items. an_arm_has_blocking (item_list items)) c.deref-in-Case.ensures.value
    ∙ sym (ap (λ x. has_blocking (statement_of x)) c.in-Case.is ∙ ap has_blocking (statement_of-Case c.in-Case.field-0 c.in-Case.field-1 c.in-Case.items))

pub assignments_in-returns-in-Block-clause-blocking : goal.assignments_in-returns-in-Block-clause-blocking
assignments_in-returns-in-Block-clause-blocking t c =
    c.in_all.ensures.blocking ∙ ap (λ xs. one_has_blocking (statement_list xs)) c.deref-in-Block.ensures.value
    ∙ sym (ap (λ x. has_blocking (statement_of x)) c.in-Block.is ∙ ap has_blocking (statement_of-Block c.in-Block.field-0 c.in-Block.statements))

pub assignments_in-returns-in-Some-clause-nonblocking : goal.assignments_in-returns-in-Some-clause-nonblocking
assignments_in-returns-in-Some-clause-nonblocking t c =
    or_is _ _ _ _ _ c.or.ensures.nonblocking (c.in_arms-found.ensures.nonblocking ∙ ap (one_arm_has has_nonblocking) c.deref.ensures.value)
    (c.assignments_in.ensures.nonblocking ∙ ap (λ x. has_nonblocking (statement_of x)) c.deref-in-Some.ensures)
    ∙ sym (nonblocking_if c.args.statement.now c.in-If.arms c.in-If.last (Some c.in-Some.other) c.in-If.is c.in-Some.is)

pub assignments_in-returns-in-None-clause-nonblocking : goal.assignments_in-returns-in-None-clause-nonblocking
assignments_in-returns-in-None-clause-nonblocking t c =
    c.in_arms-found.ensures.nonblocking ∙ ap (one_arm_has has_nonblocking) c.deref.ensures.value ∙ or_false (one_arm_has has_nonblocking c.in-If.arms.items)
    ∙ sym (nonblocking_if c.args.statement.now c.in-If.arms c.in-If.last None c.in-If.is c.in-None.is)

pub assignments_in-returns-in-Case-clause-nonblocking : goal.assignments_in-returns-in-Case-clause-nonblocking
assignments_in-returns-in-Case-clause-nonblocking t c =
    c.in_items.ensures.nonblocking ∙ ap (λ items. an_arm_has_nonblocking (item_list items)) c.deref-in-Case.ensures.value
    ∙ sym (ap (λ x. has_nonblocking (statement_of x)) c.in-Case.is ∙ ap has_nonblocking (statement_of-Case c.in-Case.field-0 c.in-Case.field-1 c.in-Case.items))

pub assignments_in-returns-in-Block-clause-nonblocking : goal.assignments_in-returns-in-Block-clause-nonblocking
assignments_in-returns-in-Block-clause-nonblocking t c =
    c.in_all.ensures.nonblocking ∙ ap (λ xs. one_has_nonblocking (statement_list xs)) c.deref-in-Block.ensures.value
    ∙ sym (ap (λ x. has_nonblocking (statement_of x)) c.in-Block.is ∙ ap has_nonblocking (statement_of-Block c.in-Block.field-0 c.in-Block.statements))

pub in_all-loop-statement-preserved : goal.in_all-loop-statement-preserved
in_all-loop-statement-preserved t c =
    let xs = c.args.statements.now in
    let r = c.statement-item.result in
    let i = c.loop-statement.statement-index in
    let rest = rest_is xs i r (omega arith) c.statement-item.is in
    record {
      blocking = turn _ _ _ _ _ _ (c.loop-statement.invariant.blocking ∙ ap (λ ys. c.loop-statement.found.blocking || one_has_blocking (statement_list ys)) rest) c.assignments_in.ensures.blocking c.or-found.ensures.blocking;
      nonblocking = turn _ _ _ _ _ _ (c.loop-statement.invariant.nonblocking ∙ ap (λ ys. c.loop-statement.found.nonblocking || one_has_nonblocking (statement_list ys)) rest) c.assignments_in.ensures.nonblocking c.or-found.ensures.nonblocking;
    }

pub in_arms-loop-arm-preserved : goal.in_arms-loop-arm-preserved
in_arms-loop-arm-preserved t c =
    let xs = c.args.arms.now in
    let r = c.arm-item.result in
    let i = c.loop-arm.arm-index in
    let rest = rest_is xs i r (omega arith) c.arm-item.is in
    record {
      blocking = turn _ _ _ _ _ _ (c.loop-arm.invariant.blocking ∙ ap (λ ys. c.loop-arm.found.blocking || one_arm_has has_blocking ys) rest) c.assignments_in.ensures.blocking c.or-found.ensures.blocking;
      nonblocking = turn _ _ _ _ _ _ (c.loop-arm.invariant.nonblocking ∙ ap (λ ys. c.loop-arm.found.nonblocking || one_arm_has has_nonblocking ys) rest) c.assignments_in.ensures.nonblocking c.or-found.ensures.nonblocking;
    }

pub in_items-loop-item-preserved : goal.in_items-loop-item-preserved
in_items-loop-item-preserved t c =
    let xs = c.args.items.now in
    let r = c.item-item.result in
    let i = c.loop-item.item-index in
    let rest = rest_is xs i r (omega arith) c.item-item.is in
    record {
      blocking = turn _ _ _ _ _ _ (c.loop-item.invariant.blocking ∙ ap (λ ys. c.loop-item.found.blocking || an_arm_has_blocking (item_list ys)) rest ∙ ap (λ b. c.loop-item.found.blocking || b) (blocking_item r (item_list (drop (i + 1) xs)))) c.in_item.ensures.blocking c.or-found.ensures.blocking;
      nonblocking = turn _ _ _ _ _ _ (c.loop-item.invariant.nonblocking ∙ ap (λ ys. c.loop-item.found.nonblocking || an_arm_has_nonblocking (item_list ys)) rest ∙ ap (λ b. c.loop-item.found.nonblocking || b) (nonblocking_item r (item_list (drop (i + 1) xs)))) c.in_item.ensures.nonblocking c.or-found.ensures.nonblocking;
    }
