use Rattle.std.proofs.Common.{◌≡◌, [], ◌∷◌, drop}
use Rattle.v_token.specs.View.{tokens_of}
use Rattle.v_place.specs.Table.{left_from}
use Rattle.v_place.specs.View.{symbol_of, expected_of}
use Rattle.v_place.proofs.first_wrong.left_at_unexpected.Given as goal

abbrev pub invariant-loop-place : goal.invariant-loop-place
invariant-loop-place l = left_from (tokens_of l.tokens) (symbol_of l.fn.start ∷ []) ≡ left_from (tokens_of (drop l.place l.tokens)) (expected_of l.expected.items)
