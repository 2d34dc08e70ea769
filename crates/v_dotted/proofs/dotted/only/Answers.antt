use Rattle.std.proofs.Common.{subst}
use Rattle.v_token.specs.View.{tokens_of}
use Rattle.v_syntax.specs.Tree.{tree_of}
use Rattle.v_expr.specs.View.{Gives}
use Rattle.v_expr.specs.Whole.{whole_at}
use Rattle.v_dotted.proofs.Joined.{none_only, whole_only, more_left}
use Rattle.v_dotted.proofs.dotted.only.Goals as goal

pub returns-in-Err-clause-read : goal.returns-in-Err-clause-read
returns-in-Err-clause-read c = λ ts h. none_only c.in-Err.stop ts (subst (λ x. Gives (λ y. (tree_of y.0, tokens_of y.1.now)) x (whole_at ts)) c.in-Err.is h)

pub returns-in-Ok-default-empty-clause-read : goal.returns-in-Ok-default-empty-clause-read
returns-in-Ok-default-empty-clause-read c = λ ts h.
    whole_only c.in-Ok-default-empty.expression ts c.in-Ok-default-empty.field-0-1.now c.in-Ok-default-empty.len_below
    (subst (λ x. Gives (λ y. (tree_of y.0, tokens_of y.1.now)) x (whole_at ts)) c.in-Ok-default-empty.is h)

pub returns-clause-read : goal.returns-clause-read
returns-clause-read c = λ ts h. more_left (tree_of c.in-Ok.field-0-0) ts c.in-Ok.rest.now c.in-Ok.len_at_least (subst (λ x. Gives (λ y. (tree_of y.0, tokens_of y.1.now)) x (whole_at ts)) c.in-Ok.is h)
