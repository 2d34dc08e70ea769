use Rattle.std.proofs.Common.{arith, ◌+◌, ◌∙◌, ap, sym, subst, rules, drop}
use Rattle.std.proofs.lemmas.Result.{on_ok_weaker}
use Rattle.verilog_trees.specs.Syntax.{case}
use Rattle.verilog_meaning.specs.Statement.{Effect, after_updates, run, run_all}
use Rattle.v_syntax.specs.declared.tree.Statement.{the_lemmas}
use Rattle.v_value.specs.Scope.{scope_at, valuation_at}
use Rattle.v_syntax.specs.Tree.{tree_of, statement_of, case_kind_of}
use Rattle.v_statement.specs.Places.{updates_of}
use Rattle.v_value.specs.Narrow.{HasFittingValues}
use Rattle.v_statement.specs.Statements.{IsNarrowStatement, AreNarrowStatements, AreNarrowItems, statement_list}
use Rattle.v_statement.specs.Effects.{effect_at, AreNarrowArms, item_list, item_statement, chosen_item}
use Rattle.v_statement.proofs.Choices as choices
use Rattle.v_statement.proofs.Runs as runs
use Rattle.v_statement.proofs.statement.+run.Goals as goal

pub run_statement-run_arms-requires : goal.run_statement-run_arms-requires
run_statement-run_arms-requires t c = (
  search (rules, the_lemmas),
  (
    c.requires.ready,
    let s = scope_at c.args.scope.now in
        let h = runs.narrow-If s (valuation_at c.args.values.now.entries.items) (updates_of c.args.updates.now.items) c.args.statement.now c.in-If.arms c.in-If.last c.in-If.is c.requires.narrow in
        subst (AreNarrowArms s) (sym c.deref-in-If.ensures.value) h.0,
  ),
)

pub run_statement-returns-then-branch : goal.run_statement-returns-then-branch
run_statement-returns-then-branch t c =
    runs.if-run (scope_at c.args.scope.now) (valuation_at c.args.values.now.entries.items) (updates_of c.args.updates.now.items) c.args.statement.now
    c.in-If.arms c.in-If.last c.in-If.is c.deref-in-If.result.now c.deref-in-If.ensures.value _ _
    c.in_ok-run_arms-in-If.ensures.found c.if-branch.true c.in_ok-run_arms-in-If.ensures.effect

pub run_statement-run_statement-requires : goal.run_statement-run_statement-requires
run_statement-run_statement-requires t c = (
  search (rules, the_lemmas),
  (
    let s = scope_at c.args.scope.now in
        let v = valuation_at c.args.values.now.entries.items in
        let us = updates_of c.args.updates.now.items in
        let e : Effect = effect_at c.run_arms.new.values c.run_arms.new.updates.items in
        let mid = runs.if-not_run s v us c.args.statement.now c.in-If.arms c.in-If.last c.in-If.is c.deref-in-If.result.now c.deref-in-If.ensures.value e _
        c.in_ok-run_arms-in-If.ensures.found c.if-branch.false c.in_ok-run_arms-in-If.ensures.effect in
        (c.requires.ready.0, subst (HasFittingValues s) (sym (runs.valuation_is e v us mid)) c.requires.ready.1),
    let s = scope_at c.args.scope.now in
        let h = runs.narrow-If s (valuation_at c.args.values.now.entries.items) (updates_of c.args.updates.now.items) c.args.statement.now c.in-If.arms c.in-If.last c.in-If.is c.requires.narrow in
        subst (λ x. IsNarrowStatement s (statement_of x)) (sym c.deref-in-Some.ensures)
        (subst (λ o. IsNarrowStatement s (runs.or_else_empty o)) c.in-Some.is h.1),
  ),
)

pub run_statement-returns-in-Some : goal.run_statement-returns-in-Some
run_statement-returns-in-Some t c =
    let s = scope_at c.args.scope.now in
    let v = valuation_at c.args.values.now.entries.items in
    let us = updates_of c.args.updates.now.items in
    let e : Effect = effect_at c.run_arms.new.values c.run_arms.new.updates.items in
    let before : Effect = record { valuation = v; updates = us } in
    let mid = runs.if-not_run s v us c.args.statement.now c.in-If.arms c.in-If.last c.in-If.is c.deref-in-If.result.now c.deref-in-If.ensures.value e _
    c.in_ok-run_arms-in-If.ensures.found c.if-branch.false c.in_ok-run_arms-in-If.ensures.effect in
    let rest = runs.if-else s v us c.args.statement.now c.in-If.arms c.in-If.last c.in-If.is c.deref-in-If.result.now c.deref-in-If.ensures.value _
    c.in_ok-run_arms-in-If.ensures.found c.if-branch.false in
    let same = runs.after_updates-same s e before (statement_of c.deref-in-Some.result.now) mid
    ∙ ap (after_updates us) (ap (λ x. run s (statement_of x) v) c.deref-in-Some.ensures ∙ sym (rest ∙ ap (λ o. run s (runs.or_else_empty o) v) c.in-Some.is)) in
    on_ok_weaker c.run_statement.result (λ k. k ∙ same) c.run_statement.ensures

pub run_statement-returns-in-None : goal.run_statement-returns-in-None
run_statement-returns-in-None t c =
    let s = scope_at c.args.scope.now in
    let v = valuation_at c.args.values.now.entries.items in
    let us = updates_of c.args.updates.now.items in
    let e = effect_at c.run_arms.new.values c.run_arms.new.updates.items in
    let mid = runs.if-not_run s v us c.args.statement.now c.in-If.arms c.in-If.last c.in-If.is c.deref-in-If.result.now c.deref-in-If.ensures.value e _
    c.in_ok-run_arms-in-If.ensures.found c.if-branch.false c.in_ok-run_arms-in-If.ensures.effect in
    let rest = runs.if-else s v us c.args.statement.now c.in-If.arms c.in-If.last c.in-If.is c.deref-in-If.result.now c.deref-in-If.ensures.value _
    c.in_ok-run_arms-in-If.ensures.found c.if-branch.false in
    mid ∙ sym (runs.after_updates-unchanged us v) ∙ ap (after_updates us) (sym (rest ∙ ap (λ o. run s (runs.or_else_empty o) v) c.in-None.is))

pub run_statement-run_all-requires : goal.run_statement-run_all-requires
run_statement-run_all-requires t c = (
  search (rules, the_lemmas),
  (
    c.requires.ready,
    let s = scope_at c.args.scope.now in
        let h = subst (IsNarrowStatement s) (ap statement_of c.in-Block.is ∙ runs.statement_of-Block c.in-Block.field-0 c.in-Block.statements) c.requires.narrow in
        subst (λ xs. AreNarrowStatements s (statement_list xs)) (sym c.deref-in-Block.ensures.value) h,
  ),
)

pub run_statement-returns-in-Block : goal.run_statement-returns-in-Block
run_statement-returns-in-Block t c =
    let s = scope_at c.args.scope.now in
    let v = valuation_at c.args.values.now.entries.items in
    let us = updates_of c.args.updates.now.items in
    let e = ap (λ xs. run_all s (statement_list xs) v) c.deref-in-Block.ensures.value
    ∙ sym (ap (λ x. run s (statement_of x) v) c.in-Block.is ∙ ap (λ x. run s x v) (runs.statement_of-Block c.in-Block.field-0 c.in-Block.statements)) in
    on_ok_weaker c.run_all.result (λ k. k ∙ ap (after_updates us) e) c.run_all.ensures

pub run_all-loop-statement-preserved : goal.run_all-loop-statement-preserved
run_all-loop-statement-preserved t c =
    let s = scope_at c.args.scope.now in
    let xs = c.args.statements.now in
    let r = c.statement-item.result in
    let i = c.loop-statement.statement-index in
    let v = valuation_at c.loop-statement.values.entries.items in
    let us = updates_of c.loop-statement.updates.items in
    let e : Effect = effect_at c.run_statement.new.values c.run_statement.new.updates.items in
    let rest = runs.rest_is xs i r (omega arith) c.statement-item.is in
    record {
      same = c.loop-statement.invariant.same
          ∙ ap (λ ys. after_updates us (run_all s (statement_list ys) v)) rest
          ∙ runs.run-more s us v (statement_of r) (statement_list (drop (i + 1) xs)) e c.in_ok-run_statement.ensures;
      ready = (c.requires.ready.0, runs.turn-fits s us (statement_of r) v e c.in_ok-run_statement.ensures c.loop-statement.invariant.ready.1);
      narrow = (subst (λ ys. AreNarrowStatements s (statement_list ys)) rest c.loop-statement.invariant.narrow).1;
    }

pub run_statement-run_case-requires : goal.run_statement-run_case-requires
run_statement-run_case-requires t c = (
  search (rules, the_lemmas),
  (
    c.requires.ready,
    let s = scope_at c.args.scope.now in
        let h = subst (IsNarrowStatement s) (ap statement_of c.in-Case.is ∙ runs.statement_of-Case c.in-Case.kind c.in-Case.expression c.in-Case.items) c.requires.narrow in
        (h.0, subst (λ items. AreNarrowItems s (item_list items)) (sym c.deref-in-Case.ensures.value) h.1),
  ),
)

pub run_statement-returns-in-Case : goal.run_statement-returns-in-Case
run_statement-returns-in-Case t c =
    let s = scope_at c.args.scope.now in
    let v = valuation_at c.args.values.now.entries.items in
    let us = updates_of c.args.updates.now.items in
    let e = ap (λ items. run s (case (case_kind_of c.in-Case.kind) (tree_of c.in-Case.expression) (item_list items)) v) c.deref-in-Case.ensures.value
    ∙ sym (ap (λ x. run s (statement_of x) v) c.in-Case.is ∙ ap (λ x. run s x v) (runs.statement_of-Case c.in-Case.kind c.in-Case.expression c.in-Case.items)) in
    on_ok_weaker c.run_case.result (λ k. k ∙ ap (after_updates us) e) c.run_case.ensures

pub run_case-chosen_item-requires-clause-values_narrow : goal.run_case-chosen_item-requires-clause-values_narrow
run_case-chosen_item-requires-clause-values_narrow t c = choices.narrow-values (scope_at c.args.scope.now) c.args.items.now c.requires.items_narrow

pub run_case-run_item-requires : goal.run_case-run_item-requires
run_case-run_item-requires t c = (
  search (rules, the_lemmas),
  (
    c.requires.ready,
    let s = scope_at c.args.scope.now in
        let r = c.index-items-index.result in
        subst (λ i. IsNarrowStatement s (item_statement i)) (sym c.index-items-index.is)
        (choices.narrow-item s c.args.items.now r c.in-Some.index c.in-Some.ensures.below c.requires.items_narrow),
  ),
)

pub run_case-returns-in-Some : goal.run_case-returns-in-Some
run_case-returns-in-Some t c =
    let s = scope_at c.args.scope.now in
    let v = valuation_at c.args.values.now.entries.items in
    let us = updates_of c.args.updates.now.items in
    let kind = case_kind_of c.args.kind in
    let x = tree_of c.args.expression.now in
    let e = choices.chosen-run s v kind x c.args.items.now c.in-Some.index c.index-items-index.result
    (c.in-Some.ensures.value ∙ ap (λ es. chosen_item s (valuation_at es) kind x c.args.items.now) c.deref.ensures.value) c.index-items-index.is in
    on_ok_weaker c.run_item.result (λ k. k ∙ ap (after_updates us) e) c.run_item.ensures

pub run_case-returns-in-None : goal.run_case-returns-in-None
run_case-returns-in-None t c =
    let s = scope_at c.args.scope.now in
    let v = valuation_at c.args.values.now.entries.items in
    let us = updates_of c.args.updates.now.items in
    let kind = case_kind_of c.args.kind in
    let x = tree_of c.args.expression.now in
    let e = choices.chosen-none s v kind x c.args.items.now
    (c.in-None.ensures.value ∙ ap (λ es. chosen_item s (valuation_at es) kind x c.args.items.now) c.deref.ensures.value) in
    sym (runs.after_updates-unchanged us v) ∙ ap (after_updates us) e
