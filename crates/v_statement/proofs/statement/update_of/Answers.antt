use Rattle.std.proofs.Common.{◌∙◌, ◌≤◌, ap, sym, subst}
use Rattle.v_value.specs.Scope.{scope_at, valuation_at}
use Rattle.v_syntax.specs.Tree.{target_of, tree_of}
use Rattle.v_statement.specs.Places.{places_of}
use Rattle.v_statement.proofs.Targets.{target-fits, update-of}
use Rattle.v_statement.proofs.statement.update_of.Goals as goal

pub places_width-width-requires : goal.places_width-width-requires
places_width-width-requires c =
    target-fits (scope_at c.args.scope.now) (valuation_at c.args.values.now) (target_of c.args.target.now) _
    (ap places_of c.deref.ensures.value ∙ c.in_ok-places.ensures) c.requires.target_narrow.1

pub assigned_value-value-requires-clause-at_most_128 : goal.assigned_value-value-requires-clause-at_most_128
assigned_value-value-requires-clause-at_most_128 c =
    subst (λ w. w ≤ 128) (sym c.places_width-width.ensures)
    (target-fits (scope_at c.args.scope.now) (valuation_at c.args.values.now) (target_of c.args.target.now) _
    (ap places_of c.deref.ensures.value ∙ c.in_ok-places.ensures) c.requires.target_narrow.1)

pub returns : goal.returns
returns c =
    update-of (scope_at c.args.scope.now) (valuation_at c.args.values.now) (target_of c.args.target.now) (tree_of c.args.expression.now) _ _ _ _
    c.in_ok-places.ensures (ap places_of c.deref.ensures.value) c.places_width-width.ensures c.assigned_value-value.ensures
