use Rattle.std.proofs.Common.{subst, sym, arith, refl}
use Rattle.std.proofs.lemmas.Bool.{false≢true}
use Rattle.std.proofs.lemmas.List.{drop_all}
use Rattle.v_value.specs.Scope.{scope_at}
use Rattle.v_statement.proofs.Runs.{rest_is}
use Rattle.v_flow.specs.Flow.{AreNarrowLadder, AreNarrowAll, AreNarrowItems}
use Rattle.test_paths.proofs.Whole as whole
use Rattle.test_paths.proofs.flow.+fitting.Goals as goal

pub statement_fits-returns-in-Empty : goal.statement_fits-returns-in-Empty
statement_fits-returns-in-Empty d c = λ t. whole.whole-Empty (scope_at c.args.names.scope.now) c.args.statement.now c.in-Empty.is

pub statement_fits-returns-in-Blocking : goal.statement_fits-returns-in-Blocking
statement_fits-returns-in-Blocking d c = λ t.
    whole.whole-Blocking (scope_at c.args.names.scope.now) c.args.statement.now c.in-Blocking.target c.in-Blocking.value c.in-Blocking.is c.deref.result.now c.deref.ensures (c.assignment_fits.ensures t)

pub statement_fits-returns-in-Nonblocking : goal.statement_fits-returns-in-Nonblocking
statement_fits-returns-in-Nonblocking d c = λ t.
    whole.whole-Nonblocking (scope_at c.args.names.scope.now) c.args.statement.now c.in-Nonblocking.target c.in-Nonblocking.value c.in-Nonblocking.is c.deref-in-Nonblocking.result.now c.deref-in-Nonblocking.ensures (c.assignment_fits-in-Nonblocking.ensures t)

pub statement_fits-returns-then-not-statement_fits : goal.statement_fits-returns-then-not-statement_fits
statement_fits-returns-then-not-statement_fits d c = λ t. absurd (false≢true t)

pub statement_fits-returns-else-not-statement_fits : goal.statement_fits-returns-else-not-statement_fits
statement_fits-returns-else-not-statement_fits d c = λ t.
    whole.whole-else (scope_at c.args.names.scope.now) c.args.statement.now c.in-If.arms c.in-If.last c.in-Some.other c.in-If.is c.in-Some.is c.deref-in-Some-2.result.now c.deref-in-Some-2.ensures.value
    c.deref-in-Some.result.now c.deref-in-Some.ensures (c.statement_fits.ensures c.if-not-statement_fits.false) (c.arms_fit.ensures t)

pub statement_fits-returns-in-None : goal.statement_fits-returns-in-None
statement_fits-returns-in-None d c = λ t.
    whole.whole-no_else (scope_at c.args.names.scope.now) c.args.statement.now c.in-If.arms c.in-If.last c.in-If.is c.in-None.is c.deref-in-None.result.now c.deref-in-None.ensures.value
    (c.arms_fit-in-None.ensures t)

pub statement_fits-returns-then-not-is_narrow : goal.statement_fits-returns-then-not-is_narrow
statement_fits-returns-then-not-is_narrow d c = λ t. absurd (false≢true t)

pub statement_fits-returns-else-not-is_narrow : goal.statement_fits-returns-else-not-is_narrow
statement_fits-returns-else-not-is_narrow d c = λ t.
    whole.whole-Case (scope_at c.args.names.scope.now) c.args.statement.now c.in-Case.field-0 c.in-Case.value c.in-Case.items c.in-Case.is c.deref-in-Case.result.now c.deref-in-Case.ensures.value
    (c.is_narrow.ensures.narrow c.if-not-is_narrow.false) (c.items_fit.ensures t)

pub statement_fits-returns-in-Block : goal.statement_fits-returns-in-Block
statement_fits-returns-in-Block d c = λ t.
    whole.whole-Block (scope_at c.args.names.scope.now) c.args.statement.now c.in-Block.field-0 c.in-Block.statements c.in-Block.is c.deref-in-Block.result.now c.deref-in-Block.ensures.value
    (c.all_fit.ensures t)

pub all_fit-loop-statement-init : goal.all_fit-loop-statement-init
all_fit-loop-statement-init d c = λ h. h

pub all_fit-loop-statement-preserved : goal.all_fit-loop-statement-preserved
all_fit-loop-statement-preserved d c = λ h.
    c.loop-statement.invariant
    (subst (AreNarrowAll (scope_at c.args.names.scope.now)) (sym (rest_is c.args.statements.now c.loop-statement.statement-index c.statement-item.result (omega arith) c.statement-item.is))
    (c.statement_fits.ensures c.if-not-statement_fits.false, h))

pub all_fit-returns-then-not-statement_fits : goal.all_fit-returns-then-not-statement_fits
all_fit-returns-then-not-statement_fits d c = λ t. absurd (false≢true t)

pub all_fit-returns : goal.all_fit-returns
all_fit-returns d c = λ t.
    c.loop-statement.invariant
    (subst (AreNarrowAll (scope_at c.args.names.scope.now)) (sym (drop_all c.loop-statement.statement-index c.args.statements.now c.loop-statement-test.false)) tt)

pub arms_fit-loop-arm-init : goal.arms_fit-loop-arm-init
arms_fit-loop-arm-init d c = λ h. h

pub arms_fit-loop-arm-preserved : goal.arms_fit-loop-arm-preserved
arms_fit-loop-arm-preserved d c = λ h.
    c.loop-arm.invariant
    (subst (AreNarrowLadder (scope_at c.args.names.scope.now)) (sym (rest_is c.args.arms.now c.loop-arm.arm-index c.arm-item.result (omega arith) c.arm-item.is))
    (c.is_narrow.ensures.narrow c.if-not-is_narrow.false, c.statement_fits.ensures c.if-not-statement_fits.false, h))

pub arms_fit-returns-then-not-is_narrow : goal.arms_fit-returns-then-not-is_narrow
arms_fit-returns-then-not-is_narrow d c = λ t. absurd (false≢true t)

pub arms_fit-returns-then-not-statement_fits : goal.arms_fit-returns-then-not-statement_fits
arms_fit-returns-then-not-statement_fits d c = λ t. absurd (false≢true t)

pub arms_fit-returns : goal.arms_fit-returns
arms_fit-returns d c = λ t.
    c.loop-arm.invariant
    (subst (AreNarrowLadder (scope_at c.args.names.scope.now)) (sym (drop_all c.loop-arm.arm-index c.args.arms.now c.loop-arm-test.false)) tt)

pub items_fit-loop-item-init : goal.items_fit-loop-item-init
items_fit-loop-item-init d c = λ h. h

pub items_fit-loop-item-preserved : goal.items_fit-loop-item-preserved
items_fit-loop-item-preserved d c = λ h.
    c.loop-item.invariant
    (subst (AreNarrowItems (scope_at c.args.names.scope.now)) (sym (rest_is c.args.items.now c.loop-item.item-index c.item-item.result (omega arith) c.item-item.is))
    (c.labels_fit.ensures c.if-not-labels_fit.false, c.body_fits.ensures c.if-not-body_fits.false, h))

pub items_fit-returns-then-not-labels_fit : goal.items_fit-returns-then-not-labels_fit
items_fit-returns-then-not-labels_fit d c = λ t. absurd (false≢true t)

pub items_fit-returns-then-not-body_fits : goal.items_fit-returns-then-not-body_fits
items_fit-returns-then-not-body_fits d c = λ t. absurd (false≢true t)

pub items_fit-returns : goal.items_fit-returns
items_fit-returns d c = λ t.
    c.loop-item.invariant
    (subst (AreNarrowItems (scope_at c.args.names.scope.now)) (sym (drop_all c.loop-item.item-index c.args.items.now c.loop-item-test.false)) tt)

pub body_fits-returns-in-Values : goal.body_fits-returns-in-Values
body_fits-returns-in-Values d c = λ t.
    whole.body-Values (scope_at c.args.names.scope.now) c.args.item.now c.in-Values.field-0 c.in-Values.statement c.in-Values.is c.in-Values.statement refl (c.statement_fits.ensures t)

pub body_fits-returns-in-Default : goal.body_fits-returns-in-Default
body_fits-returns-in-Default d c = λ t.
    whole.body-Default (scope_at c.args.names.scope.now) c.args.item.now c.in-Default.statement c.in-Default.is c.in-Default.statement refl (c.statement_fits-in-Default.ensures t)
