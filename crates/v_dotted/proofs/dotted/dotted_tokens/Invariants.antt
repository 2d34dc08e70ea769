use Rattle.std.proofs.Common.{◌≡◌, ◌++◌, None, length}
use Rattle.verilog_text.specs.Grammar.{dotted_from}
use Rattle.v_token.specs.View.{tokens_of}
use Rattle.v_dotted.specs.Dotted.{owned_tokens_of}
use Rattle.v_dotted.proofs.dotted.dotted_tokens.Given as goal

abbrev pub invariant-loop-rest : goal.invariant-loop-rest
invariant-loop-rest l = owned_tokens_of l.list.items ++ dotted_from None (tokens_of l.rest) ≡ dotted_from None (tokens_of l.tokens)

abbrev pub decreases-loop-rest : goal.decreases-loop-rest
decreases-loop-rest l = length (tokens_of l.rest)
