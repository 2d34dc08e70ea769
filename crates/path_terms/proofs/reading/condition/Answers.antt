use Rattle.v_syntax.specs.Tree.{tree_of}
use Rattle.v_value.specs.Scope.{scope_at}
use Rattle.v_lower.specs.Table.{images_at}
use Rattle.v_lower.proofs.Lowering.{images_kept}
use Rattle.path_terms.proofs.Made.{condition_made}
use Rattle.path_terms.proofs.reading.condition.Goals as goal

pub returns-clause-condition : goal.returns-clause-condition
returns-clause-condition c =
    condition_made (scope_at c.args.scope.now) (images_at c.args.table.now) c.alone.new.terms c.is_nonzero.new.terms (tree_of c.args.expression.now) c.in_ok-number.number.width
    c.in_ok-number.number.id.0 c.in_ok-id.id.0 c.is_nonzero.ensures.grows
    (images_kept (scope_at c.args.scope.now) (images_at c.args.table.now) c.args.terms.now c.alone.new.terms c.alone.ensures.grows c.requires.known)
    c.in_ok-number.ensures.lowered c.in_ok-id.ensures.made
