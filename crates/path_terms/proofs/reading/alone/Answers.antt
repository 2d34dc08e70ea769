use Rattle.std.proofs.Common.{subst, Err}
use Rattle.v_lower.specs.Table.{images_at}
use Rattle.v_syntax.specs.Tree.{tree_of}
use Rattle.v_value.specs.Scope.{scope_at}
use Rattle.v_operators.proofs.Growing.{Grows-same}
use Rattle.v_lower.specs.Answer.{IsAnswer, outcome_of}
use Rattle.path_terms.proofs.Made.{asked_by}
use Rattle.path_terms.proofs.reading.alone.Goals as goal

pub lower-requires-clause-asked : goal.lower-requires-clause-asked
lower-requires-clause-asked c =
    asked_by (scope_at c.args.scope.now) _ _ (tree_of c.args.expression.now) c.in-Ok.width c.requires.objects c.requires.fit c.requires.known
    (c.in-Ok.ensures c.requires.fit.of_text).1

pub returns-in-Err-NoMemory-clause-grows : goal.returns-in-Err-NoMemory-clause-grows
returns-in-Err-NoMemory-clause-grows c = Grows-same c.args.terms.now c.lower.new.terms
    (subst (λ o. IsAnswer (scope_at c.args.scope.now) (images_at c.args.table.now) c.args.terms.now c.lower.new.terms (tree_of c.args.expression.now) c.in-Ok.width c.in-Ok.signed (outcome_of (Err o)))
    c.in-Err-NoMemory.field-0-is c.in-Err-NoMemory.ensures)
