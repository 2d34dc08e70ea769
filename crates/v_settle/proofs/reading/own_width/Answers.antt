use Rattle.v_syntax.specs.Tree.{tree_of}
use Rattle.v_value.specs.Scope.{scope_at}
use Rattle.std.proofs.Common.{◌≤◌, sym, subst}
use Rattle.v_value.proofs.Narrows.{narrow_width}
use Rattle.v_lower.proofs.Soundness.{sound-narrow}
use Rattle.v_lower.proofs.Contextual.{width-is}
use Rattle.v_settle.proofs.reading.own_width.Goals as goal

pub width_of-requires : goal.width_of-requires
width_of-requires c = record { narrow = sound-narrow (scope_at c.args.scope.now) (tree_of c.args.expression.now) c.requires.objects c.requires.sound }

pub returns-clause-width : goal.returns-clause-width
returns-clause-width c = width-is (scope_at c.args.scope.now) (tree_of c.args.expression.now) c.width_of.result c.width_of.ensures

pub returns-clause-at_most_128 : goal.returns-clause-at_most_128
returns-clause-at_most_128 c = subst (λ k. k ≤ 128) (sym c.width_of.ensures) (narrow_width (scope_at c.args.scope.now) (tree_of c.args.expression.now) (sound-narrow (scope_at c.args.scope.now) (tree_of c.args.expression.now) c.requires.objects c.requires.sound)).1
