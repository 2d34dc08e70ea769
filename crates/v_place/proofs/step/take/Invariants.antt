use Rattle.std.proofs.Common.{◌≡◌, length}
use Rattle.v_token.specs.View.{token_of}
use Rattle.v_place.specs.Table.{expected_after}
use Rattle.v_place.specs.View.{expected_of}
use Rattle.v_place.proofs.step.take.Given as goal

abbrev pub invariant-loop-symbol : goal.invariant-loop-symbol
invariant-loop-symbol l = expected_after (expected_of l.fn.expected.items) (token_of l.token) ≡ expected_after (expected_of l.expected.items) (token_of l.token)

abbrev pub decreases-loop-symbol : goal.decreases-loop-symbol
decreases-loop-symbol l = length (expected_of l.expected.items)
