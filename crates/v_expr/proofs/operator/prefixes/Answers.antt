use Rattle.std.proofs.Common.{◌∙◌, ap, sym}
use Rattle.v_token.specs.View.{tokens_of}
use Rattle.v_expr.specs.Reading.{prefixed_at}
use Rattle.v_expr.specs.View.{after_prefixes}
use Rattle.v_expr.proofs.Turns.{no_prefix, one_prefix, after_prefixes-push}
use Rattle.v_expr.proofs.operator.prefixes.Goals as goal

pub returns-in_default-clause-read : goal.returns-in_default-clause-read
returns-in_default-clause-read c = λ whole_at. c.loop-operator.invariant whole_at ∙ ap (after_prefixes c.loop-operator.operators.items) (no_prefix whole_at (tokens_of c.loop-operator.rest.now) (sym c.in_default.ensures))

pub loop-operator-preserved : goal.loop-operator-preserved
loop-operator-preserved c = λ whole_at. c.loop-operator.invariant whole_at ∙ ap (after_prefixes c.loop-operator.operators.items) (one_prefix whole_at (tokens_of c.loop-operator.rest.now) c.in-Some.operator (tokens_of c.in-Some.after.now) (sym c.in-Some.ensures)) ∙ after_prefixes-push c.loop-operator.operators.items c.in-Some.operator _ ∙ ap (λ os. after_prefixes os (prefixed_at whole_at (tokens_of c.in-Some.after.now))) (sym c.in_ok-push.ensures.items)
