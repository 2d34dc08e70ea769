use Rattle.std.proofs.Common.{◌∙◌, ◌∷◌, ap}
use Rattle.verilog_text.specs.Token.{mark as a_mark}
use Rattle.v_token.specs.View.{mark_of, tokens_of}
use Rattle.v_expr.specs.Reading.{alone_at}
use Rattle.v_expr.proofs.Starts.{alone-parenthesis}
use Rattle.v_expr.proofs.start.mark_start.Goals as goal

pub returns-in-LeftParenthesis : goal.returns-in-LeftParenthesis
returns-in-LeftParenthesis c = λ whole_at. ap (λ m. alone_at whole_at (a_mark (mark_of m) ∷ tokens_of c.args.rest.now)) c.in-LeftParenthesis.is ∙ alone-parenthesis whole_at (tokens_of c.args.rest.now)
