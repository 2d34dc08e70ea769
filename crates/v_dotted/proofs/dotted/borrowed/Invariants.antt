use Rattle.std.proofs.Common.{◌≡◌, ◌++◌, drop}
use Rattle.v_token.specs.View.{tokens_of}
use Rattle.v_dotted.specs.Dotted.{owned_tokens_of}
use Rattle.v_dotted.proofs.dotted.borrowed.Given as goal

abbrev pub invariant-loop-token : goal.invariant-loop-token
invariant-loop-token l = tokens_of l.tokens.items ++ owned_tokens_of (drop l.token-index l.owned) ≡ owned_tokens_of l.owned
