use Rattle.std.proofs.Common.{◌≤◌, sym, subst}
use Rattle.v_syntax.specs.Tree.{tree_of}
use Rattle.v_value.specs.Scope.{scope_at}
use Rattle.v_value.proofs.Narrows.{narrow_width}
use Rattle.v_lower.proofs.Soundness.{sound-narrow}
use Rattle.v_lower.proofs.Contextual.{width-is, sign-said}
use Rattle.v_lower.proofs.taking.own_context.Goals as goal

pub width_of-requires : goal.width_of-requires
width_of-requires c = record { narrow = sound-narrow (scope_at c.args.names.scope.now) (tree_of c.args.expression.now) c.args.names.narrow c.requires }

pub returns-clause-width : goal.returns-clause-width
returns-clause-width c = width-is (scope_at c.args.names.scope.now) (tree_of c.args.expression.now) c.width_of.result c.width_of.ensures

pub returns-clause-sign : goal.returns-clause-sign
returns-clause-sign c = sign-said (scope_at c.args.names.scope.now) (tree_of c.args.expression.now) c.sign_of.result c.sign_of.ensures

pub returns-clause-some_bits : goal.returns-clause-some_bits
returns-clause-some_bits c =
    subst (λ k. 1 ≤ k) (sym c.width_of.ensures) (narrow_width (scope_at c.args.names.scope.now) (tree_of c.args.expression.now) (sound-narrow (scope_at c.args.names.scope.now) (tree_of c.args.expression.now) c.args.names.narrow c.requires)).0

pub returns-clause-at_most_128 : goal.returns-clause-at_most_128
returns-clause-at_most_128 c =
    subst (λ k. k ≤ 128) (sym c.width_of.ensures) (narrow_width (scope_at c.args.names.scope.now) (tree_of c.args.expression.now) (sound-narrow (scope_at c.args.names.scope.now) (tree_of c.args.expression.now) c.args.names.narrow c.requires)).1
