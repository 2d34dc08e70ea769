use Rattle.std.proofs.Common.{◌≡◌, map, length}
use Rattle.v_token.specs.View.{tokens_of}
use Rattle.v_expr.proofs.Repeat.{with_front}
use Rattle.v_parse.specs.Lists.{before_name, others_at}
use Rattle.v_body.specs.Words.{name_at}
use Rattle.v_parse.specs.Reading.{names_at}
use Rattle.v_parse.proofs.declaration.names.Given as goal

abbrev pub invariant-loop-names : goal.invariant-loop-names
invariant-loop-names l = with_front (map (λ n. n.now) l.names.items) (others_at before_name name_at (tokens_of l.rest)) ≡ names_at (tokens_of l.tokens)

abbrev pub decreases-loop-names : goal.decreases-loop-names
decreases-loop-names l = length (tokens_of l.rest)
