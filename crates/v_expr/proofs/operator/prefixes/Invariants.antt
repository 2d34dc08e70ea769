use Rattle.std.proofs.Common.{◌≡◌, length}
use Rattle.v_token.specs.View.{tokens_of}
use Rattle.v_expr.specs.Reading.{Reader, prefixed_at}
use Rattle.v_expr.specs.View.{after_prefixes}
use Rattle.v_expr.proofs.operator.prefixes.Given as goal

abbrev pub invariant-loop-operator : goal.invariant-loop-operator
invariant-loop-operator l = (whole_at : Reader) → prefixed_at whole_at (tokens_of l.tokens) ≡ after_prefixes l.operators.items (prefixed_at whole_at (tokens_of l.rest))

abbrev pub decreases-loop-operator : goal.decreases-loop-operator
decreases-loop-operator l = length (tokens_of l.rest)
