use Rattle.std.proofs.Common.{◌∙◌, ap, arith}
use Rattle.verilog_renamed.proofs.Paths.{ap2}
use Rattle.v_renamed.specs.NewNames.{new_name}
use Rattle.v_syntax.specs.Tree.{statement_of, target_of}
use Rattle.v_renamed.specs.Copies.{arm_of, item_of, statement_under, arm_under, item_under}
use Rattle.v_renamed.proofs.Statements as arms
use Rattle.v_renamed.proofs.Turns.{turn, end}
use Rattle.v_renamed.proofs.statement.+statement.Goals as goal

pub copy_statement-returns-in-Empty : goal.copy_statement-returns-in-Empty
copy_statement-returns-in-Empty t c =
    arms.empty-copied (new_name c.args.names.now) c.args.tree.now c.in-Empty.is

pub copy_statement-returns-in_ok-value-in-Blocking : goal.copy_statement-returns-in_ok-value-in-Blocking
copy_statement-returns-in_ok-value-in-Blocking t c =
    arms.blocking-copied (new_name c.args.names.now) c.args.tree.now c.in-Blocking.target c.in_ok-target-in-Blocking.target c.in-Blocking.value c.in_ok-value-in-Blocking.value c.in-Blocking.is c.deref.result.now c.deref.ensures (ap target_of c.in_ok-target-in-Blocking.ensures.ok ∙ c.in_ok-copied-in-Blocking.ensures) c.in_ok-value-in-Blocking.ensures

pub copy_statement-returns-in_ok-value-in-Nonblocking : goal.copy_statement-returns-in_ok-value-in-Nonblocking
copy_statement-returns-in_ok-value-in-Nonblocking t c =
    arms.nonblocking-copied (new_name c.args.names.now) c.args.tree.now c.in-Nonblocking.target c.in_ok-target-in-Nonblocking.target c.in-Nonblocking.value c.in_ok-value-in-Nonblocking.value c.in-Nonblocking.is c.deref-in-Nonblocking.result.now c.deref-in-Nonblocking.ensures (ap target_of c.in_ok-target-in-Nonblocking.ensures.ok ∙ c.in_ok-copied-in-Nonblocking.ensures) c.in_ok-value-in-Nonblocking.ensures

pub copy_statement-returns-in_ok-arms-in-Some : goal.copy_statement-returns-in_ok-arms-in-Some
copy_statement-returns-in_ok-arms-in-Some t c =
    arms.else-copied (new_name c.args.names.now) c.args.tree.now c.in-If.arms c.in_ok-arms-in-Some.arms c.in-If.last c.in-Some.other c.in_ok-other-in-Some.other c.deref-in-Some.result.now c.deref-in-Some-2.result.now
    c.in-If.is c.in-Some.is c.deref-in-Some-2.ensures.value c.deref-in-Some.ensures c.in_ok-arms-in-Some.ensures c.in_ok-other-in-Some.ensures

pub copy_statement-returns-in_ok-arms-in-None : goal.copy_statement-returns-in_ok-arms-in-None
copy_statement-returns-in_ok-arms-in-None t c =
    arms.if-copied (new_name c.args.names.now) c.args.tree.now c.in-If.arms c.in_ok-arms-in-None.arms c.in-If.last c.deref-in-None.result.now c.in-If.is c.in-None.is c.deref-in-None.ensures.value c.in_ok-arms-in-None.ensures

pub copy_statement-returns-in_ok-items-in-Case : goal.copy_statement-returns-in_ok-items-in-Case
copy_statement-returns-in_ok-items-in-Case t c =
    arms.case-copied (new_name c.args.names.now) c.args.tree.now c.in-Case.kind c.in-Case.subject c.in_ok-subject-in-Case.subject c.in-Case.items c.in_ok-items-in-Case.items c.deref-in-Case.result.now c.in-Case.is c.deref-in-Case.ensures.value c.in_ok-subject-in-Case.ensures c.in_ok-items-in-Case.ensures

pub copy_statement-returns-in_ok-statements-in-Block : goal.copy_statement-returns-in_ok-statements-in-Block
copy_statement-returns-in_ok-statements-in-Block t c =
    arms.block-copied (new_name c.args.names.now) c.args.tree.now c.in-Block.name c.in-Block.statements c.in_ok-statements-in-Block.statements c.deref-in-Block.result.now c.in-Block.is c.deref-in-Block.ensures.value c.in_ok-statements-in-Block.ensures

pub copy_item-returns-in_ok-statement-in-Values : goal.copy_item-returns-in_ok-statement-in-Values
copy_item-returns-in_ok-statement-in-Values t c =
    arms.values-copied (new_name c.args.names.now) c.args.item.now c.in-Values.values c.in_ok-values-in-Values.values c.in-Values.statement c.in_ok-statement-in-Values.statement c.deref.result.now c.in-Values.is c.deref.ensures.value c.in_ok-values-in-Values.ensures c.in_ok-statement-in-Values.ensures

pub copy_item-returns-in_ok-statement-in-Default : goal.copy_item-returns-in_ok-statement-in-Default
copy_item-returns-in_ok-statement-in-Default t c =
    arms.default-copied (new_name c.args.names.now) c.args.item.now c.in-Default.statement c.in_ok-statement-in-Default.statement c.in-Default.is c.in_ok-statement-in-Default.ensures

pub copy_statements-loop-statement-preserved : goal.copy_statements-loop-statement-preserved
copy_statements-loop-statement-preserved t c =
    turn statement_of (statement_under (new_name c.args.names.now)) c.args.statements.now c.loop-statement.statement-index _ c.loop-statement.copies.items c.push.new.self.items c.in_ok-statement.statement (omega arith)
    c.loop-statement.invariant (c.in_ok-statement.ensures ∙ ap (statement_under (new_name c.args.names.now)) c.statement-item.is) c.in_ok-push.ensures.items

pub copy_statements-returns : goal.copy_statements-returns
copy_statements-returns t c =
    end statement_of (statement_under (new_name c.args.names.now)) c.args.statements.now c.loop-statement.statement-index c.loop-statement.copies.items (omega arith) c.loop-statement.invariant

pub copy_arms-loop-arm-preserved : goal.copy_arms-loop-arm-preserved
copy_arms-loop-arm-preserved t c =
    turn arm_of (arm_under (new_name c.args.names.now)) c.args.arms.now c.loop-arm.arm-index _ c.loop-arm.copies.items c.push.new.self.items _ (omega arith)
    c.loop-arm.invariant (ap2 (λ e x. (e, x)) c.in_ok-condition.ensures c.in_ok-statement.ensures ∙ ap (arm_under (new_name c.args.names.now)) c.arm-item.is) c.in_ok-push.ensures.items

pub copy_arms-returns : goal.copy_arms-returns
copy_arms-returns t c =
    end arm_of (arm_under (new_name c.args.names.now)) c.args.arms.now c.loop-arm.arm-index c.loop-arm.copies.items (omega arith) c.loop-arm.invariant

pub copy_items-loop-item-preserved : goal.copy_items-loop-item-preserved
copy_items-loop-item-preserved t c =
    turn item_of (item_under (new_name c.args.names.now)) c.args.items.now c.loop-item.item-index _ c.loop-item.copies.items c.push.new.self.items c.in_ok-item.item (omega arith)
    c.loop-item.invariant (c.in_ok-item.ensures ∙ ap (item_under (new_name c.args.names.now)) c.item-item.is) c.in_ok-push.ensures.items

pub copy_items-returns : goal.copy_items-returns
copy_items-returns t c =
    end item_of (item_under (new_name c.args.names.now)) c.args.items.now c.loop-item.item-index c.loop-item.copies.items (omega arith) c.loop-item.invariant
