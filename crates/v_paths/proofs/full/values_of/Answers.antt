use Rattle.std.proofs.Common.{◌≤◌, ◌∙◌, ◌+◌, drop, ap, sym, subst, arith}
use Rattle.std.specs.Prelude.{◌||◌}
use Rattle.std.proofs.lemmas.List.{at_drop_all}
use Rattle.verilog_meaning.specs.Statement.{items_width}
use Rattle.v_value.specs.Scope.{scope_at}
use Rattle.v_statement.specs.Effects.{item_list}
use Rattle.v_statement.proofs.Runs.{rest_is}
use Rattle.v_flow.specs.Flow.{AreNarrowItems}
use Rattle.v_paths.specs.Cases.{one_item_has}
use Rattle.v_paths.proofs.Labels.{has-turn, has-end, first-within, rest-within, item-width, no-number}
use Rattle.v_paths.proofs.full.values_of.Goals as goal

pub loop-item-init : goal.loop-item-init
loop-item-init c =
    let s = scope_at c.args.scope.now in
    let w = c.args.context.width in
    let g = c.args.context.signed in
    record {
      same = λ x. ap (λ b. b || one_item_has s w g x c.args.items.now) (sym (no-number c.new-values.result c.new-values.ensures.empty x));
      narrow = c.requires.narrow;
      within = c.requires.within;
    }

pub add_item_values-requires-clause-narrow : goal.add_item_values-requires-clause-narrow
add_item_values-requires-clause-narrow c =
    let s = scope_at c.args.scope.now in
    let rest = rest_is c.args.items.now c.loop-item.item-index c.item-item.result (omega arith) c.item-item.is in
    (subst (AreNarrowItems s) rest c.loop-item.invariant.narrow).0

pub add_item_values-requires-clause-within : goal.add_item_values-requires-clause-within
add_item_values-requires-clause-within c =
    let s = scope_at c.args.scope.now in
    let i = c.loop-item.item-index in
    let r = c.item-item.result in
    let rest = rest_is c.args.items.now i r (omega arith) c.item-item.is in
    first-within _ _ _ (subst (λ n. n ≤ c.args.context.width) (ap (λ ys. items_width s (item_list ys)) rest ∙ item-width s r (drop (i + 1) c.args.items.now)) c.loop-item.invariant.within)

pub loop-item-preserved : goal.loop-item-preserved
loop-item-preserved c =
    let s = scope_at c.args.scope.now in
    let w = c.args.context.width in
    let g = c.args.context.signed in
    let i = c.loop-item.item-index in
    let r = c.item-item.result in
    let rest = rest_is c.args.items.now i r (omega arith) c.item-item.is in
    record {
      same = λ x. has-turn _ _ _ _ _ _ (c.loop-item.invariant.same x) (ap (one_item_has s w g x) rest) (c.in_ok-add_item_values.ensures x);
      narrow = (subst (AreNarrowItems s) rest c.loop-item.invariant.narrow).2;
      within = rest-within _ _ _ (subst (λ n. n ≤ w) (ap (λ ys. items_width s (item_list ys)) rest ∙ item-width s r (drop (i + 1) c.args.items.now)) c.loop-item.invariant.within);
    }

pub returns : goal.returns
returns c = λ x.
    has-end _ _ _ (c.loop-item.invariant.same x)
    (at_drop_all (one_item_has (scope_at c.args.scope.now) c.args.context.width c.args.context.signed x) c.args.items.now c.loop-item.item-index c.loop-item-test.false)
