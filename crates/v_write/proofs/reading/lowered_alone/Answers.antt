use Rattle.v_syntax.specs.Tree.{tree_of}
use Rattle.v_value.specs.Scope.{scope_at}
use Rattle.v_lower.specs.Table.{images_at}
use Rattle.v_lower.proofs.Contextual.{own-within, alone_at, sign-said}
use Rattle.v_value.specs.Evaluation.{width_at}
use Rattle.v_write.proofs.reading.lowered_alone.Goals as goal

pub lowered-requires-clause-within : goal.lowered-requires-clause-within
lowered-requires-clause-within c = own-within c.own_width-width.result (width_at (scope_at c.args.scope.now) (tree_of c.args.expression.now)) c.own_width-width.ensures.width

pub returns-clause-lowered : goal.returns-clause-lowered
returns-clause-lowered c =
    alone_at (scope_at c.args.scope.now) (images_at c.args.table.now) c.lowered.new.terms (tree_of c.args.expression.now) c.own_width-width.result c.in_ok-id.id.0 c.sign_of-signed.result c.own_width-width.ensures.width
    (sign-said (scope_at c.args.scope.now) (tree_of c.args.expression.now) c.sign_of-signed.result c.sign_of-signed.ensures) c.in_ok-id.ensures.lowered

pub returns-clause-sign : goal.returns-clause-sign
returns-clause-sign c = sign-said (scope_at c.args.scope.now) (tree_of c.args.expression.now) c.sign_of-signed.result c.sign_of-signed.ensures
