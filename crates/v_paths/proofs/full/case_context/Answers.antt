use Rattle.std.proofs.Common.{◌∙◌, ◌+◌, drop, ap, sym, subst, max, arith}
use Rattle.std.specs.Prelude.{◌&&◌}
use Rattle.std.proofs.lemmas.List.{at_drop_all}
use Rattle.verilog_meaning.specs.Statement.{items_width, items_signed}
use Rattle.v_value.specs.Scope.{scope_at}
use Rattle.v_statement.specs.Effects.{item_list}
use Rattle.v_statement.proofs.Runs.{rest_is}
use Rattle.v_flow.specs.Flow.{AreNarrowItems}
use Rattle.v_paths.proofs.Labels.{width-turn, signed-turn, width-end, signed-end, item-width, item-signed}
use Rattle.v_paths.proofs.full.case_context.Goals as goal

pub loop-item-init : goal.loop-item-init
loop-item-init c =
    let s = scope_at c.args.scope.now in
    record {
      width = ap (λ w. max w (items_width s (item_list c.args.items.now))) (sym c.width_of.ensures);
      signed = ap (λ g. g && items_signed s (item_list c.args.items.now)) (sym c.sign_of.ensures);
      narrow = c.requires.items;
    }

pub joined_item-context-requires : goal.joined_item-context-requires
joined_item-context-requires c =
    let s = scope_at c.args.scope.now in
    let rest = rest_is c.args.items.now c.loop-item.item-index c.item-item.result (omega arith) c.item-item.is in
    (subst (AreNarrowItems s) rest c.loop-item.invariant.narrow).0

pub loop-item-preserved : goal.loop-item-preserved
loop-item-preserved c =
    let s = scope_at c.args.scope.now in
    let i = c.loop-item.item-index in
    let r = c.item-item.result in
    let rest = rest_is c.args.items.now i r (omega arith) c.item-item.is in
    let later = drop (i + 1) c.args.items.now in
    record {
      width = width-turn _ _ _ _ _ _ c.loop-item.invariant.width (ap (λ ys. items_width s (item_list ys)) rest ∙ item-width s r later) c.joined_item-context.ensures.width;
      signed = signed-turn _ _ _ _ _ _ c.loop-item.invariant.signed (ap (λ ys. items_signed s (item_list ys)) rest ∙ item-signed s r later) c.joined_item-context.ensures.signed;
      narrow = (subst (AreNarrowItems s) rest c.loop-item.invariant.narrow).2;
    }

pub returns-clause-width : goal.returns-clause-width
returns-clause-width c =
    width-end _ _ _ c.loop-item.invariant.width
    (at_drop_all (λ ys. items_width (scope_at c.args.scope.now) (item_list ys)) c.args.items.now c.loop-item.item-index c.loop-item-test.false)

pub returns-clause-signed : goal.returns-clause-signed
returns-clause-signed c =
    signed-end _ _ _ c.loop-item.invariant.signed
    (at_drop_all (λ ys. items_signed (scope_at c.args.scope.now) (item_list ys)) c.args.items.now c.loop-item.item-index c.loop-item-test.false)
