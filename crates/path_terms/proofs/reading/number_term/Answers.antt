use Rattle.v_syntax.specs.Tree.{tree_of}
use Rattle.v_value.specs.Scope.{scope_at}
use Rattle.v_lower.specs.Table.{images_at}
use Rattle.path_terms.proofs.Made.{number_made}
use Rattle.path_terms.proofs.reading.number_term.Goals as goal

pub returns-clause-number : goal.returns-clause-number
returns-clause-number c =
    number_made (scope_at c.args.scope.now) (images_at c.args.table.now) c.alone.new.terms (tree_of c.args.expression.now) c.in_ok-number.number.width
    c.in_ok-number.number.id.0 c.in_ok-number.ensures.lowered
