use Rattle.std.proofs.Common.{◌≡◌, [], drop}
use Rattle.verilog_text.specs.Text.{is_too_deep}
use Rattle.v_token.specs.View.{tokens_of}
use Rattle.v_lex.specs.Nesting.{openings_of}
use Rattle.v_lex.proofs.nesting.too_deep.Given as goal

abbrev pub invariant-loop-token : goal.invariant-loop-token
invariant-loop-token l = is_too_deep [] (tokens_of l.tokens) ≡ is_too_deep (openings_of l.stack.items) (tokens_of (drop l.token-index l.tokens))
