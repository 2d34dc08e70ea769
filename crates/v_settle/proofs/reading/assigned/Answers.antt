use Rattle.v_syntax.specs.Tree.{tree_of}
use Rattle.v_value.specs.Scope.{scope_at}
use Rattle.v_lower.specs.Table.{images_at}
use Rattle.std.proofs.Common.{◌≤◌, subst, arith}
use Rattle.v_value.specs.Evaluation.{width_at}
use Rattle.v_lower.proofs.Contextual.{own-within}
use Rattle.v_lower.proofs.Lowering.{images_kept}
use Rattle.v_settle.proofs.Lowered.{assigned_narrow, assigned_wide}
use Rattle.v_settle.proofs.reading.assigned.Goals as goal

pub lowered-requires-clause-within : goal.lowered-requires-clause-within
lowered-requires-clause-within c = subst (λ k. k ≤ c.args.width) c.own_width-own.ensures.width c.if-own-width.true

pub returns-then-own-width-clause-assigned : goal.returns-then-own-width-clause-assigned
returns-then-own-width-clause-assigned c =
    assigned_narrow (scope_at c.args.scope.now) (images_at c.args.table.now) c.lowered.new.terms (tree_of c.args.expression.now) c.args.width c.own_width-own.result c.in_ok-id.id.0 c.sign_of-signed.result c.own_width-own.ensures.width c.if-own-width.true c.sign_of-signed.ensures c.in_ok-id.ensures.lowered

pub lowered-requires-2-clause-within : goal.lowered-requires-2-clause-within
lowered-requires-2-clause-within c = own-within c.own_width-own.result (width_at (scope_at c.args.scope.now) (tree_of c.args.expression.now)) c.own_width-own.ensures.width

pub returns-clause-assigned : goal.returns-clause-assigned
returns-clause-assigned c =
    assigned_wide (scope_at c.args.scope.now) (images_at c.args.table.now) c.lowered-2.new.terms c.resized.new.terms (tree_of c.args.expression.now) c.args.width c.own_width-own.result c.in_ok-all.all.0 c.in_ok-id-2.id.0 c.sign_of-signed.result
    (images_kept (scope_at c.args.scope.now) (images_at c.args.table.now) c.args.terms.now c.lowered-2.new.terms c.in_ok-all.ensures.grows c.requires.known) c.in_ok-id-2.ensures.grows c.own_width-own.ensures.width (omega (arith, c.if-own-width.false)) c.sign_of-signed.ensures c.in_ok-all.ensures.lowered c.in_ok-id-2.ensures.made
