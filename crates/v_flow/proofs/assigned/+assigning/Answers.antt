use Rattle.std.proofs.Common.{◌∙◌, ap, sym, subst, rules, arith}
use Rattle.std.proofs.lemmas.Result.{on_ok_weaker}
use Rattle.std.proofs.lemmas.List.{at_drop_all}
use Rattle.verilog_designs.specs.Reads.{or_in}
use Rattle.v_value.specs.Scope.{scope_at}
use Rattle.v_syntax.specs.declared.tree.Statement.{the_lemmas}
use Rattle.v_statement.proofs.Runs.{rest_is}
use Rattle.v_flow.specs.Spans.{bits_in}
use Rattle.v_flow.specs.Narrow.{IsNarrowFlow}
use Rattle.v_flow.specs.Flow.{assigned_at, all_assigned, ladder_assigned, bodies_assigned, AreNarrowLadder, AreNarrowAll, AreNarrowItems}
use Rattle.v_flow.proofs.Sets.{joins, turn, end, nothing}
use Rattle.v_flow.proofs.Flows as flow
use Rattle.v_flow.proofs.assigned.+assigning.Goals as goal

pub add_statement-add_each-requires-clause-narrow : goal.add_statement-add_each-requires-clause-narrow
add_statement-add_each-requires-clause-narrow t c = (flow.narrow-Blocking (scope_at c.args.scope.now) c.args.statement.now c.requires.narrow c.in-Blocking.target c.in-Blocking.field-1 c.in-Blocking.is c.deref.result.now c.deref.ensures).0

pub add_statement-returns-in-Blocking : goal.add_statement-returns-in-Blocking
add_statement-returns-in-Blocking t c = on_ok_weaker c.add_each.result (λ k. k ∙ ap (or_in (bits_in c.args.found.now.items)) (flow.assigned-Blocking (scope_at c.args.scope.now) c.args.statement.now c.in-Blocking.target c.in-Blocking.field-1 c.in-Blocking.is c.deref.result.now c.deref.ensures)) c.add_each.ensures

pub add_statement-add_each-requires-in-Nonblocking-clause-narrow : goal.add_statement-add_each-requires-in-Nonblocking-clause-narrow
add_statement-add_each-requires-in-Nonblocking-clause-narrow t c = (flow.narrow-Nonblocking (scope_at c.args.scope.now) c.args.statement.now c.requires.narrow c.in-Nonblocking.target c.in-Nonblocking.field-1 c.in-Nonblocking.is c.deref-in-Nonblocking.result.now c.deref-in-Nonblocking.ensures).0

pub add_statement-returns-in-Nonblocking : goal.add_statement-returns-in-Nonblocking
add_statement-returns-in-Nonblocking t c = on_ok_weaker c.add_each-in-Nonblocking.result (λ k. k ∙ ap (or_in (bits_in c.args.found.now.items)) (flow.assigned-Nonblocking (scope_at c.args.scope.now) c.args.statement.now c.in-Nonblocking.target c.in-Nonblocking.field-1 c.in-Nonblocking.is c.deref-in-Nonblocking.result.now c.deref-in-Nonblocking.ensures)) c.add_each-in-Nonblocking.ensures

pub add_statement-returns-in-Empty : goal.add_statement-returns-in-Empty
add_statement-returns-in-Empty t c = nothing _ _ (flow.assigned-Empty (scope_at c.args.scope.now) c.args.statement.now c.in-Empty.is)

pub add_statement-add_ladder-requires : goal.add_statement-add_ladder-requires
add_statement-add_ladder-requires t c = (search (rules, the_lemmas), (c.requires.objects, flow.narrow-If (scope_at c.args.scope.now) c.args.statement.now c.requires.narrow c.in-If.arms c.in-If.last c.in-If.is c.deref-in-If.result.now c.deref-in-If.ensures.value))

pub add_statement-add_statement-requires : goal.add_statement-add_statement-requires
add_statement-add_statement-requires t c = (search (rules, the_lemmas), (c.requires.objects, flow.narrow-else (scope_at c.args.scope.now) c.args.statement.now c.requires.narrow c.in-If.arms c.in-If.last c.in-Some.other c.in-If.is c.in-Some.is c.deref-in-Some.result.now c.deref-in-Some.ensures))

pub add_statement-returns-in-Some : goal.add_statement-returns-in-Some
add_statement-returns-in-Some t c = on_ok_weaker c.add_statement.result (λ k. joins _ _ _ _ _ _ c.in_ok-add_ladder-in-If.ensures k (flow.assigned-else (scope_at c.args.scope.now) c.args.statement.now c.in-If.arms c.in-If.last c.in-Some.other c.in-If.is c.in-Some.is c.deref-in-If.result.now c.deref-in-If.ensures.value c.deref-in-Some.result.now c.deref-in-Some.ensures)) c.add_statement.ensures

pub add_statement-returns-in-None : goal.add_statement-returns-in-None
add_statement-returns-in-None t c = c.in_ok-add_ladder-in-If.ensures ∙ ap (or_in (bits_in c.args.found.now.items)) (flow.assigned-no_else (scope_at c.args.scope.now) c.args.statement.now c.in-If.arms c.in-If.last c.in-If.is c.in-None.is c.deref-in-If.result.now c.deref-in-If.ensures.value)

pub add_statement-add_bodies-requires : goal.add_statement-add_bodies-requires
add_statement-add_bodies-requires t c = (search (rules, the_lemmas), (c.requires.objects, flow.narrow-Items (scope_at c.args.scope.now) c.args.statement.now c.requires.narrow c.in-Case.field-0 c.in-Case.field-1 c.in-Case.items c.in-Case.is c.deref-in-Case.result.now c.deref-in-Case.ensures.value))

pub add_statement-returns-in-Case : goal.add_statement-returns-in-Case
add_statement-returns-in-Case t c = on_ok_weaker c.add_bodies.result (λ k. k ∙ ap (or_in (bits_in c.args.found.now.items)) (flow.assigned-Case (scope_at c.args.scope.now) c.args.statement.now c.in-Case.field-0 c.in-Case.field-1 c.in-Case.items c.in-Case.is c.deref-in-Case.result.now c.deref-in-Case.ensures.value)) c.add_bodies.ensures

pub add_statement-add_all-requires : goal.add_statement-add_all-requires
add_statement-add_all-requires t c = (search (rules, the_lemmas), (c.requires.objects, flow.narrow-Block (scope_at c.args.scope.now) c.args.statement.now c.requires.narrow c.in-Block.field-0 c.in-Block.statements c.in-Block.is c.deref-in-Block.result.now c.deref-in-Block.ensures.value))

pub add_statement-returns-in-Block : goal.add_statement-returns-in-Block
add_statement-returns-in-Block t c = on_ok_weaker c.add_all.result (λ k. k ∙ ap (or_in (bits_in c.args.found.now.items)) (flow.assigned-Block (scope_at c.args.scope.now) c.args.statement.now c.in-Block.field-0 c.in-Block.statements c.in-Block.is c.deref-in-Block.result.now c.deref-in-Block.ensures.value)) c.add_all.ensures

pub add_body-add_statement-requires : goal.add_body-add_statement-requires
add_body-add_statement-requires t c = (search (rules, the_lemmas), (c.requires.objects, subst (IsNarrowFlow (scope_at c.args.scope.now)) (sym (flow.body-Values c.args.item.now c.in-Values.field-0 c.in-Values.statement c.in-Values.is)) c.requires.narrow))

pub add_body-returns-in-Values : goal.add_body-returns-in-Values
add_body-returns-in-Values t c = on_ok_weaker c.add_statement.result (λ k. k ∙ ap (or_in (bits_in c.args.found.now.items)) (ap (assigned_at (scope_at c.args.scope.now)) (flow.body-Values c.args.item.now c.in-Values.field-0 c.in-Values.statement c.in-Values.is))) c.add_statement.ensures

pub add_body-add_statement-requires-in-Default : goal.add_body-add_statement-requires-in-Default
add_body-add_statement-requires-in-Default t c = (search (rules, the_lemmas), (c.requires.objects, subst (IsNarrowFlow (scope_at c.args.scope.now)) (sym (flow.body-Default c.args.item.now c.in-Default.statement c.in-Default.is)) c.requires.narrow))

pub add_body-returns-in-Default : goal.add_body-returns-in-Default
add_body-returns-in-Default t c = on_ok_weaker c.add_statement-in-Default.result (λ k. k ∙ ap (or_in (bits_in c.args.found.now.items)) (ap (assigned_at (scope_at c.args.scope.now)) (flow.body-Default c.args.item.now c.in-Default.statement c.in-Default.is))) c.add_statement-in-Default.ensures

pub add_all-add_statement-requires : goal.add_all-add_statement-requires
add_all-add_statement-requires t c =
    let s = (scope_at c.args.scope.now) in
    let xs = c.args.statements.now in
    let i = c.loop-statement.statement-index in
    let rest = rest_is xs i c.statement-item.result (omega arith) c.statement-item.is in
    let n = subst (AreNarrowAll s) rest c.loop-statement.invariant.narrow in
    (search (rules, the_lemmas), (c.requires.objects, n.0))

pub add_all-loop-statement-preserved : goal.add_all-loop-statement-preserved
add_all-loop-statement-preserved t c =
    let s = (scope_at c.args.scope.now) in
    let xs = c.args.statements.now in
    let i = c.loop-statement.statement-index in
    let rest = rest_is xs i c.statement-item.result (omega arith) c.statement-item.is in
    let n = subst (AreNarrowAll s) rest c.loop-statement.invariant.narrow in
    record { same = turn _ _ _ _ _ (c.loop-statement.invariant.same ∙ ap (λ ys. or_in (bits_in c.loop-statement.found.items) (all_assigned s ys)) rest) c.in_ok-add_statement.ensures; narrow = n.1 }

pub add_all-returns : goal.add_all-returns
add_all-returns t c = end _ _ _ c.loop-statement.invariant.same (at_drop_all (all_assigned (scope_at c.args.scope.now)) c.args.statements.now c.loop-statement.statement-index c.loop-statement-test.false)

pub add_bodies-add_body-requires : goal.add_bodies-add_body-requires
add_bodies-add_body-requires t c =
    let s = (scope_at c.args.scope.now) in
    let xs = c.args.items.now in
    let i = c.loop-item.item-index in
    let rest = rest_is xs i c.item-item.result (omega arith) c.item-item.is in
    let n = subst (AreNarrowItems s) rest c.loop-item.invariant.narrow in
    (search (rules, the_lemmas), (c.requires.objects, n.1))

pub add_bodies-loop-item-preserved : goal.add_bodies-loop-item-preserved
add_bodies-loop-item-preserved t c =
    let s = (scope_at c.args.scope.now) in
    let xs = c.args.items.now in
    let i = c.loop-item.item-index in
    let rest = rest_is xs i c.item-item.result (omega arith) c.item-item.is in
    let n = subst (AreNarrowItems s) rest c.loop-item.invariant.narrow in
    record { same = turn _ _ _ _ _ (c.loop-item.invariant.same ∙ ap (λ ys. or_in (bits_in c.loop-item.found.items) (bodies_assigned s ys)) rest) c.in_ok-add_body.ensures; narrow = n.2 }

pub add_bodies-returns : goal.add_bodies-returns
add_bodies-returns t c = end _ _ _ c.loop-item.invariant.same (at_drop_all (bodies_assigned (scope_at c.args.scope.now)) c.args.items.now c.loop-item.item-index c.loop-item-test.false)

pub add_ladder-add_statement-requires : goal.add_ladder-add_statement-requires
add_ladder-add_statement-requires t c =
    let s = (scope_at c.args.scope.now) in
    let xs = c.args.arms.now in
    let i = c.loop-arm.arm-index in
    let rest = rest_is xs i c.arm-item.result (omega arith) c.arm-item.is in
    let n = subst (AreNarrowLadder s) rest c.loop-arm.invariant.narrow in
    (search (rules, the_lemmas), (c.requires.objects, n.1))

pub add_ladder-loop-arm-preserved : goal.add_ladder-loop-arm-preserved
add_ladder-loop-arm-preserved t c =
    let s = (scope_at c.args.scope.now) in
    let xs = c.args.arms.now in
    let i = c.loop-arm.arm-index in
    let rest = rest_is xs i c.arm-item.result (omega arith) c.arm-item.is in
    let n = subst (AreNarrowLadder s) rest c.loop-arm.invariant.narrow in
    record { same = turn _ _ _ _ _ (c.loop-arm.invariant.same ∙ ap (λ ys. or_in (bits_in c.loop-arm.found.items) (ladder_assigned s ys)) rest) c.in_ok-add_statement.ensures; narrow = n.2 }

pub add_ladder-returns : goal.add_ladder-returns
add_ladder-returns t c = end _ _ _ c.loop-arm.invariant.same (at_drop_all (ladder_assigned (scope_at c.args.scope.now)) c.args.arms.now c.loop-arm.arm-index c.loop-arm-test.false)
