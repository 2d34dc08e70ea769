use Rattle.std.proofs.Common.{◌≡◌, ◌∷◌, ◌∙◌, ◌+◌, sym, subst, rules, arith, drop}
use Rattle.std.specs.Prelude.{Some, None}
use Rattle.std.proofs.lemmas.List.{at_drop_all}
use Rattle.verilog_meaning.specs.Register.{may_assign}
use Rattle.verilog_designs.specs.Reads.{or_in}
use Rattle.v_syntax.specs.Tree.{tree_of, statement_of}
use Rattle.v_syntax.specs.declared.tree.Statement.{the_lemmas}
use Rattle.v_statement.specs.Statements.{arm_list}
use Rattle.v_statement.specs.Effects.{item_list}
use Rattle.v_statement.proofs.Runs.{rest_is}
use Rattle.v_value.specs.Scope.{scope_at}
use Rattle.v_flow.specs.Spans.{existing}
use Rattle.v_flow.proofs.Flows as flow
use Rattle.v_masks.specs.Masks.{masked, spread}
use Rattle.v_depend.specs.Running.{IsFit, AreFit, AreFitItems, Adds}
use Rattle.v_depend.proofs.Uniting.{none-masked}
use Rattle.v_depend.proofs.Choices as choice
use Rattle.v_depend.proofs.Walk.{drop-before}
use Rattle.v_depend.proofs.Runs as runs
use Rattle.v_depend.proofs.run.+running.Goals as goal

pub run-returns-in-Empty : goal.run-returns-in-Empty
run-returns-in-Empty t c = runs.rests-Empty (masked c.args.unsettled.now) (scope_at c.args.scope.now) c.args.statement.now c.in-Empty.is

pub run-returns-in-Nonblocking : goal.run-returns-in-Nonblocking
run-returns-in-Nonblocking t c = runs.rests-Nonblocking (masked c.args.unsettled.now) (scope_at c.args.scope.now) c.args.statement.now c.in-Nonblocking.field-0 c.in-Nonblocking.field-1 c.in-Nonblocking.is

pub run-take-requires-clause-target : goal.run-take-requires-clause-target
run-take-requires-clause-target t c = (runs.fit-Blocking (scope_at c.args.scope.now) c.args.statement.now c.requires.fit c.in-Blocking.target c.in-Blocking.value c.in-Blocking.is c.deref.result.now c.deref.ensures).narrow.0

pub run-take-requires-clause-value : goal.run-take-requires-clause-value
run-take-requires-clause-value t c = (runs.fit-Blocking (scope_at c.args.scope.now) c.args.statement.now c.requires.fit c.in-Blocking.target c.in-Blocking.value c.in-Blocking.is c.deref.result.now c.deref.ensures).narrow.1

pub run-take-requires-clause-at_most_128 : goal.run-take-requires-clause-at_most_128
run-take-requires-clause-at_most_128 t c = (runs.fit-Blocking (scope_at c.args.scope.now) c.args.statement.now c.requires.fit c.in-Blocking.target c.in-Blocking.value c.in-Blocking.is c.deref.result.now c.deref.ensures).targets

pub run-take-requires-clause-reached : goal.run-take-requires-clause-reached
run-take-requires-clause-reached t c = (runs.fit-Blocking (scope_at c.args.scope.now) c.args.statement.now c.requires.fit c.in-Blocking.target c.in-Blocking.value c.in-Blocking.is c.deref.result.now c.deref.ensures).plain

pub run-returns-in_ok-take-in-Blocking : goal.run-returns-in_ok-take-in-Blocking
run-returns-in_ok-take-in-Blocking t c = runs.rests-Blocking (masked c.args.unsettled.now) (masked c.take.new.unsettled) (scope_at c.args.scope.now) c.args.statement.now c.in-Blocking.target c.in-Blocking.value c.in-Blocking.is c.deref.result.now c.deref.ensures c.in_ok-take-in-Blocking.ensures

pub run-run-requires : goal.run-run-requires
run-run-requires t c = (search (rules, the_lemmas), (c.requires.objects, (runs.fit-else (scope_at c.args.scope.now) c.args.statement.now c.requires.fit c.in-If.arms c.in-If.last c.in-Some.other c.in-If.is c.in-Some.is c.deref-in-Some.result.now c.deref-in-Some.ensures, runs.same-variables (masked c.args.unsettled.now) _ (scope_at c.args.scope.now) c.in_ok-left-in-Some.ensures c.requires.variables)))

pub run-add_assigned_bits-requires-clause-narrow : goal.run-add_assigned_bits-requires-clause-narrow
run-add_assigned_bits-requires-clause-narrow t c = (runs.fit-else (scope_at c.args.scope.now) c.args.statement.now c.requires.fit c.in-If.arms c.in-If.last c.in-Some.other c.in-If.is c.in-Some.is c.deref-in-Some-2.result.now c.deref-in-Some-2.ensures).narrow

pub run-ladder-requires : goal.run-ladder-requires
run-ladder-requires t c = (search (rules, the_lemmas), (c.requires.objects, (runs.fit-If (scope_at c.args.scope.now) c.args.statement.now c.requires.fit c.in-If.arms c.in-If.last c.in-If.is c.deref-in-Some-3.result.now c.deref-in-Some-3.ensures.value, c.requires.variables)))

pub run-returns-in_ok-ladder-in-Some : goal.run-returns-in_ok-ladder-in-Some
run-returns-in_ok-ladder-in-Some t c =
    let s = (scope_at c.args.scope.now) in
    let w = (masked c.args.unsettled.now) in
    let rests = runs.as-copied w (masked c.in_ok-left-in-Some.left) (masked c.run.new.unsettled) s (statement_of c.deref-in-Some.result.now) c.in_ok-left-in-Some.ensures c.in_ok-run-in-Some.ensures in
    let last = choice.last-told w s (statement_of c.deref-in-Some.result.now) (masked c.add_assigned_bits.new.assigned) (masked c.run.new.unsettled) (masked c.new-assigned.result)
    (runs.fit-else (scope_at c.args.scope.now) c.args.statement.now c.requires.fit c.in-If.arms c.in-If.last c.in-Some.other c.in-If.is c.in-Some.is c.deref-in-Some.result.now c.deref-in-Some.ensures) rests (none-masked c.new-assigned.result c.new-assigned.ensures.empty)
    (subst (λ y. masked c.add_assigned_bits.new.assigned ≡ or_in (masked c.new-assigned.result) (spread (existing s (may_assign s (statement_of y))))) (c.deref-in-Some-2.ensures ∙ sym c.deref-in-Some.ensures) c.in_ok-add_assigned_bits-in-Some.ensures) in
    let told = c.in_ok-ladder-in-Some.ensures (Some (statement_of c.deref-in-Some.result.now)) last in
    runs.rests-If w (masked c.ladder.new.left) s c.args.statement.now c.in-If.arms c.in-If.last c.in-If.is
    (runs.as-last w (masked c.ladder.new.left) s c.in-If.arms c.in-If.last (Some (statement_of c.deref-in-Some.result.now))
    (runs.last-some c.in-If.last c.in-Some.other c.in-Some.is c.deref-in-Some.result.now c.deref-in-Some.ensures) c.deref-in-Some-3.result.now c.deref-in-Some-3.ensures.value told.left_is)

pub run-ladder-requires-in-None : goal.run-ladder-requires-in-None
run-ladder-requires-in-None t c = (search (rules, the_lemmas), (c.requires.objects, (runs.fit-If (scope_at c.args.scope.now) c.args.statement.now c.requires.fit c.in-If.arms c.in-If.last c.in-If.is c.deref-in-None.result.now c.deref-in-None.ensures.value, c.requires.variables)))

pub run-returns-in_ok-ladder-in-None : goal.run-returns-in_ok-ladder-in-None
run-returns-in_ok-ladder-in-None t c =
    let s = (scope_at c.args.scope.now) in
    let w = (masked c.args.unsettled.now) in
    let none = choice.nothing-told w s (masked c.new-assigned-in-None.result) (masked c.in_ok-left-in-None.left) (none-masked c.new-assigned-in-None.result c.new-assigned-in-None.ensures.empty) c.in_ok-left-in-None.ensures in
    let told = c.in_ok-ladder-in-None.ensures None none in
    runs.rests-If w (masked c.ladder-in-None.new.left) s c.args.statement.now c.in-If.arms c.in-If.last c.in-If.is
    (runs.as-last w (masked c.ladder-in-None.new.left) s c.in-If.arms c.in-If.last None (runs.last-none c.in-If.last c.in-None.is) c.deref-in-None.result.now c.deref-in-None.ensures.value told.left_is)

pub run-is_full-requires-clause-narrow : goal.run-is_full-requires-clause-narrow
run-is_full-requires-clause-narrow t c = flow.narrow-Case (scope_at c.args.scope.now) c.args.statement.now c.requires.fit.narrow c.in-Case.kind c.in-Case.value c.in-Case.items c.in-Case.is

pub run-is_full-requires-clause-items : goal.run-is_full-requires-clause-items
run-is_full-requires-clause-items t c = flow.narrow-Items (scope_at c.args.scope.now) c.args.statement.now c.requires.fit.narrow c.in-Case.kind c.in-Case.value c.in-Case.items c.in-Case.is c.deref-in-Case.result.now c.deref-in-Case.ensures.value

pub run-choice_rests-requires-clause-value : goal.run-choice_rests-requires-clause-value
run-choice_rests-requires-clause-value t c = flow.narrow-Case (scope_at c.args.scope.now) c.args.statement.now c.requires.fit.narrow c.in-Case.kind c.in-Case.value c.in-Case.items c.in-Case.is

pub run-choice_rests-requires-clause-items : goal.run-choice_rests-requires-clause-items
run-choice_rests-requires-clause-items t c = flow.narrow-Items (scope_at c.args.scope.now) c.args.statement.now c.requires.fit.narrow c.in-Case.kind c.in-Case.value c.in-Case.items c.in-Case.is c.deref-in-Case-2.result.now c.deref-in-Case-2.ensures.value

pub run-bodies-requires : goal.run-bodies-requires
run-bodies-requires t c = (search (rules, the_lemmas), (c.requires.objects, (runs.fit-Case (scope_at c.args.scope.now) c.args.statement.now c.requires.fit c.in-Case.kind c.in-Case.value c.in-Case.items c.in-Case.is c.deref-in-Case-3.result.now c.deref-in-Case-3.ensures.value, c.requires.variables)))

pub run-returns-in_ok-choose-in-Case : goal.run-returns-in_ok-choose-in-Case
run-returns-in_ok-choose-in-Case t c =
    runs.rests-Case (masked c.args.unsettled.now) (masked c.choose.new.left) (scope_at c.args.scope.now) c.args.statement.now c.in-Case.kind c.in-Case.value c.in-Case.items c.in-Case.is
    c.deref-in-Case.result.now c.deref-in-Case-2.result.now c.deref-in-Case-3.result.now c.deref-in-Case.ensures.value c.deref-in-Case-2.ensures.value c.deref-in-Case-3.ensures.value
    c.in_ok-full-in-Case.full c.in_ok-rests-in-Case.rests (masked c.new-assigned-in-Case.result) (masked c.in_ok-left-in-Case.left) (masked c.bodies.new.assigned) (masked c.bodies.new.left)
    c.in_ok-full-in-Case.ensures c.in_ok-left-in-Case.ensures (none-masked c.new-assigned-in-Case.result c.new-assigned-in-Case.ensures.empty) c.in_ok-bodies-in-Case.ensures
    c.in_ok-rests-in-Case.ensures c.in_ok-choose-in-Case.ensures

pub run-in_turn-requires : goal.run-in_turn-requires
run-in_turn-requires t c = (search (rules, the_lemmas), (c.requires.objects, (runs.fit-Block (scope_at c.args.scope.now) c.args.statement.now c.requires.fit c.in-Block.field-0 c.in-Block.statements c.in-Block.is c.deref-in-Block.result.now c.deref-in-Block.ensures.value, c.requires.variables)))

pub run-returns-in_ok-in_turn-in-Block : goal.run-returns-in_ok-in_turn-in-Block
run-returns-in_ok-in_turn-in-Block t c = runs.rests-Block (masked c.args.unsettled.now) (masked c.in_turn.new.unsettled) (scope_at c.args.scope.now) c.args.statement.now c.in-Block.field-0 c.in-Block.statements c.in-Block.is c.deref-in-Block.result.now c.deref-in-Block.ensures.value c.in_ok-in_turn-in-Block.ensures

pub in_turn-run-requires : goal.in_turn-run-requires
in_turn-run-requires t c =
    let rest = rest_is c.args.statements.now c.loop-statement.statement-index c.statement-item.result (omega arith) c.statement-item.is in
    (search (rules, the_lemmas), (c.requires.objects, ((subst (AreFit (scope_at c.args.scope.now)) rest c.loop-statement.invariant.fit).0, c.loop-statement.invariant.variables)))

pub in_turn-loop-statement-init : goal.in_turn-loop-statement-init
in_turn-loop-statement-init t c =
    record {
      rests = λ u h. ((λ k. k), (λ k. k));
      fit = c.requires.fit;
      variables = c.requires.variables;
    }

pub in_turn-loop-statement-preserved : goal.in_turn-loop-statement-preserved
in_turn-loop-statement-preserved t c =
    let s = (scope_at c.args.scope.now) in
    let xs = c.args.statements.now in
    let i = c.loop-statement.statement-index in
    let r = c.statement-item.result in
    let rest = rest_is c.args.statements.now c.loop-statement.statement-index c.statement-item.result (omega arith) c.statement-item.is in
    let v = c.loop-statement.invariant in
    let fit = subst (AreFit s) rest v.fit in
    record {
      rests = λ u h.
          runs.onward (masked c.args.unsettled.now) (masked c.loop-statement.unsettled) (masked c.run.new.unsettled) s xs (drop i xs) r (drop (i + 1) xs) u h rest (v.rests u h) c.in_ok-run.ensures;
      fit = fit.1;
      variables = runs.still-variables (masked c.loop-statement.unsettled) (masked c.run.new.unsettled) s (statement_of r) fit.0 v.variables c.in_ok-run.ensures;
    }

pub in_turn-returns : goal.in_turn-returns
in_turn-returns t c = λ u h.
    runs.turns-ended (masked c.args.unsettled.now) (masked c.loop-statement.unsettled) (scope_at c.args.scope.now) c.args.statements.now (drop c.loop-statement.statement-index c.args.statements.now) u
    (at_drop_all (λ ys. ys) c.args.statements.now c.loop-statement.statement-index c.loop-statement-test.false) (c.loop-statement.invariant.rests u h)

pub add_branch-run-requires : goal.add_branch-run-requires
add_branch-run-requires t c = (search (rules, the_lemmas), (c.requires.objects, (c.requires.fit, runs.same-variables (masked c.args.unsettled.now) _ (scope_at c.args.scope.now) c.in_ok-copy.ensures c.requires.variables)))

pub add_branch-add_assigned_bits-requires-clause-narrow : goal.add_branch-add_assigned_bits-requires-clause-narrow
add_branch-add_assigned_bits-requires-clause-narrow t c = c.requires.fit.narrow

pub add_branch-returns : goal.add_branch-returns
add_branch-returns t c =
    choice.branch-added (masked c.args.unsettled.now) (scope_at c.args.scope.now) (statement_of c.args.statement.now) (masked c.args.assigned.now) (masked c.args.left.now) (masked c.run.new.unsettled)
    (masked c.add_assigned_bits.new.assigned) (masked c.unite.new.to) c.requires.fit
    (runs.as-copied (masked c.args.unsettled.now) (masked c.in_ok-copy.copy) (masked c.run.new.unsettled) (scope_at c.args.scope.now) (statement_of c.args.statement.now) c.in_ok-copy.ensures c.in_ok-run.ensures)
    c.in_ok-unite.ensures c.in_ok-add_assigned_bits.ensures

pub arm-add_branch-requires : goal.arm-add_branch-requires
arm-add_branch-requires t c = (search (rules, the_lemmas), (c.requires.objects, (c.requires.fit, c.requires.variables)))

pub arm-returns : goal.arm-returns
arm-returns t c = λ y told.
    choice.arm-told (masked c.args.unsettled.now) (scope_at c.args.scope.now) (tree_of c.args.arm.now.condition) (statement_of c.args.arm.now.statement) y c.in_ok-rests.rests (masked c.args.assigned.now) (masked c.args.left.now)
    (masked c.add_branch.new.assigned) (masked c.add_branch.new.left) (masked c.choose.new.left) told c.in_ok-add_branch.ensures c.in_ok-rests.ensures c.in_ok-choose.ensures

pub ladder-arm-requires : goal.ladder-arm-requires
ladder-arm-requires t c =
    let p = runs.arm-fit (scope_at c.args.scope.now) c.args.arms.now c.loop-i.i c.index-arms-i.result (drop-before c.args.arms.now c.loop-i.i c.index-arms-i.result c.loop-i-test.true c.loop-i.auto.i c.index-arms-i.is) c.requires.fit in
    (search (rules, the_lemmas), (c.requires.objects, (p.0, (p.1, c.requires.variables))))

pub ladder-loop-i-preserved : goal.ladder-loop-i-preserved
ladder-loop-i-preserved t c = λ y told.
    runs.arms-turn (masked c.args.unsettled.now) (scope_at c.args.scope.now) c.args.arms.now c.loop-i.i c.index-arms-i.result (drop-before c.args.arms.now c.loop-i.i c.index-arms-i.result c.loop-i-test.true c.loop-i.auto.i c.index-arms-i.is) y (masked c.arm.new.assigned) (masked c.arm.new.left)
    (c.in_ok-arm.ensures (arm_list (drop c.loop-i.i c.args.arms.now) y) (c.loop-i.invariant y told))

pub ladder-returns : goal.ladder-returns
ladder-returns t c = λ y told.
    runs.arms-ended (masked c.args.unsettled.now) (scope_at c.args.scope.now) c.args.arms.now c.loop-i.i y (masked c.loop-i.assigned) (masked c.loop-i.left) (omega (arith, c.loop-i-test.false)) (c.loop-i.invariant y told)

pub bodies-body-requires : goal.bodies-body-requires
bodies-body-requires t c =
    let rest = rest_is c.args.items.now c.loop-item.item-index c.item-item.result (omega arith) c.item-item.is in
    (search (rules, the_lemmas), (c.requires.objects, ((subst (AreFitItems (scope_at c.args.scope.now)) rest c.loop-item.invariant.fit).0, c.requires.variables)))

pub bodies-loop-item-preserved : goal.bodies-loop-item-preserved
bodies-loop-item-preserved t c =
    let s = (scope_at c.args.scope.now) in
    let xs = c.args.items.now in
    let i = c.loop-item.item-index in
    let r = c.item-item.result in
    let rest = rest_is c.args.items.now c.loop-item.item-index c.item-item.result (omega arith) c.item-item.is in
    record {
      adds = choice.items-turn (masked c.args.unsettled.now) s (item_list xs) r (drop (i + 1) xs) (masked c.args.assigned.now) (masked c.args.left.now) (masked c.loop-item.assigned) (masked c.loop-item.left)
          (masked c.body.new.assigned) (masked c.body.new.left)
          (runs.items-at (masked c.args.unsettled.now) s (item_list xs) (drop i xs) (r ∷ drop (i + 1) xs) rest (masked c.args.assigned.now) (masked c.args.left.now) (masked c.loop-item.assigned) (masked c.loop-item.left)
          c.loop-item.invariant.adds) c.in_ok-body.ensures;
      fit = (subst (AreFitItems s) rest c.loop-item.invariant.fit).1;
    }

pub bodies-returns : goal.bodies-returns
bodies-returns t c =
    c.loop-item.invariant.adds (masked c.loop-item.assigned) (masked c.loop-item.left)
    (choice.items-ended (masked c.args.unsettled.now) (scope_at c.args.scope.now) (item_list (drop c.loop-item.item-index c.args.items.now)) (masked c.loop-item.assigned) (masked c.loop-item.left)
    (at_drop_all item_list c.args.items.now c.loop-item.item-index c.loop-item-test.false))

pub body-add_branch-requires : goal.body-add_branch-requires
body-add_branch-requires t c = (search (rules, the_lemmas), (c.requires.objects, (subst (IsFit (scope_at c.args.scope.now)) (sym (flow.body-Values c.args.item.now c.in-Values.field-0 c.in-Values.statement c.in-Values.is)) c.requires.fit, c.requires.variables)))

pub body-returns-in_ok-add_branch-in-Values : goal.body-returns-in_ok-add_branch-in-Values
body-returns-in_ok-add_branch-in-Values t c =
    subst (λ x. Adds (masked c.args.unsettled.now) (scope_at c.args.scope.now) x (masked c.args.assigned.now) (masked c.args.left.now) (masked c.add_branch.new.assigned) (masked c.add_branch.new.left)) (flow.body-Values c.args.item.now c.in-Values.field-0 c.in-Values.statement c.in-Values.is) c.in_ok-add_branch-in-Values.ensures

pub body-add_branch-requires-in-Default : goal.body-add_branch-requires-in-Default
body-add_branch-requires-in-Default t c = (search (rules, the_lemmas), (c.requires.objects, (subst (IsFit (scope_at c.args.scope.now)) (sym (flow.body-Default c.args.item.now c.in-Default.statement c.in-Default.is)) c.requires.fit, c.requires.variables)))

pub body-returns-in_ok-add_branch-in-Default : goal.body-returns-in_ok-add_branch-in-Default
body-returns-in_ok-add_branch-in-Default t c =
    subst (λ x. Adds (masked c.args.unsettled.now) (scope_at c.args.scope.now) x (masked c.args.assigned.now) (masked c.args.left.now) (masked c.add_branch-in-Default.new.assigned) (masked c.add_branch-in-Default.new.left)) (flow.body-Default c.args.item.now c.in-Default.statement c.in-Default.is) c.in_ok-add_branch-in-Default.ensures
