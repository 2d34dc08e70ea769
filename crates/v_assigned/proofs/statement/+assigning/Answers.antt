use Rattle.std.proofs.Common.{◌∙◌, ◌+◌, true, drop, ap, sym, arith, Some, None}
use Rattle.std.specs.List.{list_any}
use Rattle.std.proofs.lemmas.List.{at_drop_all}
use Rattle.std.proofs.lemmas.List.Folds.{list_any-append}
use Rattle.verilog_designs.specs.Drivers.{target_names, assigned_names, assigned_in_all, assigned_in_arms}
use Rattle.v_syntax.specs.Tree.{target_of, statement_of}
use Rattle.v_statement.specs.Statements.{statement_list}
use Rattle.v_statement.specs.Effects.{item_list}
use Rattle.v_statement.proofs.Runs.{rest_is, statement_of-Case, statement_of-Block}
use Rattle.v_value.specs.Scope.{scope_at}
use Rattle.v_assigned.specs.Names.{is_wrong}
use Rattle.v_assigned.specs.Assigned.{arms_names}
use Rattle.v_assigned.proofs.Parts.{past, hit, at-if, at-item}
use Rattle.v_assigned.proofs.statement.+assigning.Goals as goal

pub has_wrong-returns-in-Blocking : goal.has_wrong-returns-in-Blocking
has_wrong-returns-in-Blocking t c =
    let p = is_wrong c.args.names.now (scope_at c.args.scope.now) true in
    c.assigns_wrong.ensures ∙ ap (λ z. list_any p (target_names (target_of z))) c.deref.ensures ∙ sym (ap (λ z. list_any p (assigned_names (statement_of z))) c.in-Blocking.is)

pub has_wrong-returns-in-Nonblocking : goal.has_wrong-returns-in-Nonblocking
has_wrong-returns-in-Nonblocking t c =
    let p = is_wrong c.args.names.now (scope_at c.args.scope.now) true in
    c.assigns_wrong-in-Nonblocking.ensures ∙ ap (λ z. list_any p (target_names (target_of z))) c.deref-in-Nonblocking.ensures ∙ sym (ap (λ z. list_any p (assigned_names (statement_of z))) c.in-Nonblocking.is)

pub has_wrong-returns-then-an_arm_has_wrong : goal.has_wrong-returns-then-an_arm_has_wrong
has_wrong-returns-then-an_arm_has_wrong t c =
    let p = is_wrong c.args.names.now (scope_at c.args.scope.now) true in
    hit _ _ _ _ (at-if p c.args.statement.now c.in-If.arms c.in-If.last c.in-If.last c.in-If.is (λ i. c.in-If.last))
    (c.an_arm_has_wrong.ensures ∙ ap (λ ys. list_any p (arms_names ys)) c.deref-in-If.ensures.value) c.if-an_arm_has_wrong.true

pub has_wrong-returns-in-Some : goal.has_wrong-returns-in-Some
has_wrong-returns-in-Some t c =
    let p = is_wrong c.args.names.now (scope_at c.args.scope.now) true in
    sym (past _ _ _ _ (at-if p c.args.statement.now c.in-If.arms c.in-If.last (Some c.in-Some.other) c.in-If.is c.in-Some.is)
    (c.an_arm_has_wrong.ensures ∙ ap (λ ys. list_any p (arms_names ys)) c.deref-in-If.ensures.value) c.if-an_arm_has_wrong.false
    ∙ sym (c.has_wrong.ensures ∙ ap (λ x. list_any p (assigned_names (statement_of x))) c.deref-in-Some.ensures))

pub has_wrong-returns-in-None : goal.has_wrong-returns-in-None
has_wrong-returns-in-None t c =
    let p = is_wrong c.args.names.now (scope_at c.args.scope.now) true in
    sym (past _ _ _ _ (at-if p c.args.statement.now c.in-If.arms c.in-If.last None c.in-If.is c.in-None.is)
    (c.an_arm_has_wrong.ensures ∙ ap (λ ys. list_any p (arms_names ys)) c.deref-in-If.ensures.value) c.if-an_arm_has_wrong.false)

pub has_wrong-returns-in-Case : goal.has_wrong-returns-in-Case
has_wrong-returns-in-Case t c =
    let p = is_wrong c.args.names.now (scope_at c.args.scope.now) true in
    c.an_item_has_wrong.ensures ∙ ap (λ items. list_any p (assigned_in_arms (item_list items))) c.deref-in-Case.ensures.value
    ∙ sym (ap (λ x. list_any p (assigned_names (statement_of x))) c.in-Case.is ∙ ap (λ x. list_any p (assigned_names x)) (statement_of-Case c.in-Case.field-0 c.in-Case.field-1 c.in-Case.items))

pub has_wrong-returns-in-Block : goal.has_wrong-returns-in-Block
has_wrong-returns-in-Block t c =
    let p = is_wrong c.args.names.now (scope_at c.args.scope.now) true in
    c.one_has_wrong.ensures ∙ ap (λ xs. list_any p (assigned_in_all (statement_list xs))) c.deref-in-Block.ensures.value
    ∙ sym (ap (λ x. list_any p (assigned_names (statement_of x))) c.in-Block.is ∙ ap (λ x. list_any p (assigned_names x)) (statement_of-Block c.in-Block.field-0 c.in-Block.statements))

pub one_has_wrong-loop-statement-preserved : goal.one_has_wrong-loop-statement-preserved
one_has_wrong-loop-statement-preserved t c =
    let p = is_wrong c.args.names.now (scope_at c.args.scope.now) true in
    let xs = c.args.statements.now in
    let i = c.loop-statement.statement-index in
    let r = c.statement-item.result in
    past _ _ _ _
    (c.loop-statement.invariant ∙ ap (λ ys. list_any p (assigned_in_all (statement_list ys))) (rest_is xs i r (omega arith) c.statement-item.is)
    ∙ list_any-append p (assigned_names (statement_of r)) (assigned_in_all (statement_list (drop (i + 1) xs))))
    c.has_wrong.ensures c.if-has_wrong.false

pub one_has_wrong-returns-then-has_wrong : goal.one_has_wrong-returns-then-has_wrong
one_has_wrong-returns-then-has_wrong t c =
    let p = is_wrong c.args.names.now (scope_at c.args.scope.now) true in
    let xs = c.args.statements.now in
    let i = c.loop-statement.statement-index in
    let r = c.statement-item.result in
    hit _ _ _ _
    (c.loop-statement.invariant ∙ ap (λ ys. list_any p (assigned_in_all (statement_list ys))) (rest_is xs i r (omega arith) c.statement-item.is)
    ∙ list_any-append p (assigned_names (statement_of r)) (assigned_in_all (statement_list (drop (i + 1) xs))))
    c.has_wrong.ensures c.if-has_wrong.true

pub one_has_wrong-returns : goal.one_has_wrong-returns
one_has_wrong-returns t c =
    let p = is_wrong c.args.names.now (scope_at c.args.scope.now) true in
    sym (c.loop-statement.invariant ∙ at_drop_all (λ ys. list_any p (assigned_in_all (statement_list ys))) c.args.statements.now c.loop-statement.statement-index c.loop-statement-test.false)

pub an_arm_has_wrong-loop-arm-preserved : goal.an_arm_has_wrong-loop-arm-preserved
an_arm_has_wrong-loop-arm-preserved t c =
    let p = is_wrong c.args.names.now (scope_at c.args.scope.now) true in
    let xs = c.args.arms.now in
    let i = c.loop-arm.arm-index in
    let r = c.arm-item.result in
    past _ _ _ _
    (c.loop-arm.invariant ∙ ap (λ ys. list_any p (arms_names ys)) (rest_is xs i r (omega arith) c.arm-item.is)
    ∙ list_any-append p (assigned_names (statement_of r.statement)) (arms_names (drop (i + 1) xs)))
    c.has_wrong.ensures c.if-has_wrong.false

pub an_arm_has_wrong-returns-then-has_wrong : goal.an_arm_has_wrong-returns-then-has_wrong
an_arm_has_wrong-returns-then-has_wrong t c =
    let p = is_wrong c.args.names.now (scope_at c.args.scope.now) true in
    let xs = c.args.arms.now in
    let i = c.loop-arm.arm-index in
    let r = c.arm-item.result in
    hit _ _ _ _
    (c.loop-arm.invariant ∙ ap (λ ys. list_any p (arms_names ys)) (rest_is xs i r (omega arith) c.arm-item.is)
    ∙ list_any-append p (assigned_names (statement_of r.statement)) (arms_names (drop (i + 1) xs)))
    c.has_wrong.ensures c.if-has_wrong.true

pub an_arm_has_wrong-returns : goal.an_arm_has_wrong-returns
an_arm_has_wrong-returns t c =
    let p = is_wrong c.args.names.now (scope_at c.args.scope.now) true in
    sym (c.loop-arm.invariant ∙ at_drop_all (λ ys. list_any p (arms_names ys)) c.args.arms.now c.loop-arm.arm-index c.loop-arm-test.false)

pub an_item_has_wrong-loop-item-preserved : goal.an_item_has_wrong-loop-item-preserved
an_item_has_wrong-loop-item-preserved t c =
    let p = is_wrong c.args.names.now (scope_at c.args.scope.now) true in
    let xs = c.args.items.now in
    let i = c.loop-item.item-index in
    let r = c.item-item.result in
    past _ _ _ _
    (c.loop-item.invariant ∙ ap (λ ys. list_any p (assigned_in_arms (item_list ys))) (rest_is xs i r (omega arith) c.item-item.is)
    ∙ at-item p r (item_list (drop (i + 1) xs)))
    c.item_has_wrong.ensures c.if-item_has_wrong.false

pub an_item_has_wrong-returns-then-item_has_wrong : goal.an_item_has_wrong-returns-then-item_has_wrong
an_item_has_wrong-returns-then-item_has_wrong t c =
    let p = is_wrong c.args.names.now (scope_at c.args.scope.now) true in
    let xs = c.args.items.now in
    let i = c.loop-item.item-index in
    let r = c.item-item.result in
    hit _ _ _ _
    (c.loop-item.invariant ∙ ap (λ ys. list_any p (assigned_in_arms (item_list ys))) (rest_is xs i r (omega arith) c.item-item.is)
    ∙ at-item p r (item_list (drop (i + 1) xs)))
    c.item_has_wrong.ensures c.if-item_has_wrong.true

pub an_item_has_wrong-returns : goal.an_item_has_wrong-returns
an_item_has_wrong-returns t c =
    let p = is_wrong c.args.names.now (scope_at c.args.scope.now) true in
    sym (c.loop-item.invariant ∙ at_drop_all (λ ys. list_any p (assigned_in_arms (item_list ys))) c.args.items.now c.loop-item.item-index c.loop-item-test.false)
