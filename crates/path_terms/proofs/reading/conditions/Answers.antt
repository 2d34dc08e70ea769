use Rattle.std.proofs.Common.{sym, subst, arith}
use Rattle.wb_values.specs.Value.{truth}
use Rattle.v_syntax.specs.Tree.{tree_of}
use Rattle.v_value.specs.Scope.{scope_at}
use Rattle.v_operators.proofs.Growing.{Grows-refl, Grows-trans}
use Rattle.v_lower.specs.Table.{images_at}
use Rattle.v_lower.proofs.Lowering.{images_kept}
use Rattle.path_terms.specs.Mapped.{IsFit, IsTermFor}
use Rattle.path_terms.proofs.Made.{none_made, one_turn, fit_first, fit_rest}
use Rattle.path_terms.proofs.reading.conditions.Goals as goal

pub loop-expression-init : goal.loop-expression-init
loop-expression-init c =
    record {
      grows = Grows-refl c.args.terms.now;
      known = c.requires.known;
      rest = c.requires.fit;
      made = none_made (scope_at c.args.scope.now) (images_at c.args.table.now) c.args.terms.now _ c.new-list.ensures.items;
    }

pub returns-in_err-id-clause-grows : goal.returns-in_err-id-clause-grows
returns-in_err-id-clause-grows c = Grows-trans c.loop-expression.invariant.grows c.condition.ensures.grows

pub returns-in_err-push-clause-grows : goal.returns-in_err-push-clause-grows
returns-in_err-push-clause-grows c = Grows-trans c.loop-expression.invariant.grows c.condition.ensures.grows

pub condition-requires-clause-fit : goal.condition-requires-clause-fit
condition-requires-clause-fit c =
    subst (λ x. IsFit (scope_at c.args.scope.now) (tree_of x)) (sym c.expression-item.is)
    (fit_first (scope_at c.args.scope.now) c.args.expressions.now c.loop-expression.expression-index c.expression-item.result (omega arith) c.loop-expression.invariant.rest)

pub loop-expression-preserved : goal.loop-expression-preserved
loop-expression-preserved c =
    record {
      grows = Grows-trans c.loop-expression.invariant.grows c.condition.ensures.grows;
      known = images_kept (scope_at c.args.scope.now) (images_at c.args.table.now) c.loop-expression.terms c.condition.new.terms c.condition.ensures.grows c.loop-expression.invariant.known;
      rest = fit_rest (scope_at c.args.scope.now) c.args.expressions.now c.loop-expression.expression-index c.expression-item.result (omega arith) c.loop-expression.invariant.rest;
      made = one_turn (scope_at c.args.scope.now) (images_at c.args.table.now) c.loop-expression.terms c.condition.new.terms c.args.expressions.now
          c.loop-expression.expression-index c.expression-item.result (omega arith) c.loop-expression.list.items c.push.new.self.items c.in_ok-id.id c.condition.ensures.grows
          c.loop-expression.invariant.known c.loop-expression.invariant.made
          (subst (λ x. IsTermFor (scope_at c.args.scope.now) (images_at c.args.table.now) c.condition.new.terms truth (tree_of x) c.in_ok-id.id.0) c.expression-item.is c.in_ok-id.ensures.condition)
          c.in_ok-push.ensures.items;
    }
