use Rattle.std.proofs.Common.{◌∙◌, ◌≤◌, ap, sym, subst}
use Rattle.std.proofs.lemmas.Result.{on_ok_weaker}
use Rattle.v_value.specs.Scope.{scope_at, valuation_at}
use Rattle.v_syntax.specs.Tree.{target_of, tree_of}
use Rattle.v_statement.specs.Places.{places_of}
use Rattle.v_statement.proofs.Targets.{target-fits, written-of}
use Rattle.v_statement.proofs.statement.assign.Goals as goal

pub places_width-width-requires : goal.places_width-width-requires
places_width-width-requires c =
    let v = ap valuation_at c.deref.ensures.value in
    target-fits (scope_at c.args.scope.now) (valuation_at c.deref.result.now) (target_of c.args.target.now) _
    (ap places_of c.deref-2.ensures.value ∙ c.in_ok-places.ensures) c.requires.target_narrow.1

pub assigned_value-value-requires-clause-at_most_128 : goal.assigned_value-value-requires-clause-at_most_128
assigned_value-value-requires-clause-at_most_128 c =
    subst (λ w. w ≤ 128) (sym c.places_width-width.ensures)
    (target-fits (scope_at c.args.scope.now) (valuation_at c.deref.result.now) (target_of c.args.target.now) _
    (ap places_of c.deref-2.ensures.value ∙ c.in_ok-places.ensures) c.requires.target_narrow.1)

pub write-requires-clause-at_most_128 : goal.write-requires-clause-at_most_128
write-requires-clause-at_most_128 c =
    target-fits (scope_at c.args.scope.now) (valuation_at c.deref.result.now) (target_of c.args.target.now) _
    (ap places_of c.deref-4.ensures.value ∙ c.in_ok-places.ensures) c.requires.target_narrow.1

pub returns : goal.returns
returns c =
    let e = written-of (scope_at c.args.scope.now) (target_of c.args.target.now) (tree_of c.args.expression.now)
    (valuation_at c.args.values.now.entries.items) (valuation_at c.deref.result.now) (valuation_at c.deref-3.result.now) _ _ _ _ _
    (ap valuation_at c.deref.ensures.value) (ap valuation_at c.deref-3.ensures.value)
    c.in_ok-places.ensures (ap places_of c.deref-2.ensures.value) (ap places_of c.deref-4.ensures.value)
    c.places_width-width.ensures c.assigned_value-value.ensures in
    on_ok_weaker c.write.result (λ k. k ∙ e) c.write.ensures.written
