-- The pure tokens that the code's stand for.
use Rattle.std.specs.Prelude.{ℕ, List, map}
use Rattle.verilog_text.specs.Token as pure
use Rattle.v_token.specs.declared.token.Mark.{Mark}
use Rattle.v_token.specs.declared.token.Mark.TheVariants as marks
use Rattle.v_token.specs.declared.token.TokenKind.{TokenKind}
use Rattle.v_token.specs.declared.token.TokenKind.TheVariants as kinds
use Rattle.v_token.specs.declared.token.Token.{Token}

abbrev pub mark_of : Mark → pure.Mark
mark_of marks.LeftParenthesis = pure.left_parenthesis
mark_of marks.RightParenthesis = pure.right_parenthesis
mark_of marks.LeftBracket = pure.left_bracket
mark_of marks.RightBracket = pure.right_bracket
mark_of marks.LeftBrace = pure.left_brace
mark_of marks.RightBrace = pure.right_brace
mark_of marks.Comma = pure.comma
mark_of marks.Semicolon = pure.semicolon
mark_of marks.Colon = pure.colon
mark_of marks.Dot = pure.dot
mark_of marks.Hash = pure.hash
mark_of marks.At = pure.at
mark_of marks.Question = pure.question
mark_of marks.Equals = pure.equals
mark_of marks.PlusColon = pure.plus_colon
mark_of marks.MinusColon = pure.minus_colon
mark_of marks.Plus = pure.plus
mark_of marks.Minus = pure.minus
mark_of marks.Star = pure.star
mark_of marks.DoubleStar = pure.double_star
mark_of marks.Slash = pure.slash
mark_of marks.Percent = pure.percent
mark_of marks.Exclamation = pure.exclamation
mark_of marks.Tilde = pure.tilde
mark_of marks.Ampersand = pure.ampersand
mark_of marks.TildeAmpersand = pure.tilde_ampersand
mark_of marks.Bar = pure.bar
mark_of marks.TildeBar = pure.tilde_bar
mark_of marks.Caret = pure.caret
mark_of marks.TildeCaret = pure.tilde_caret
mark_of marks.CaretTilde = pure.caret_tilde
mark_of marks.DoubleAmpersand = pure.double_ampersand
mark_of marks.DoubleBar = pure.double_bar
mark_of marks.Less = pure.less
mark_of marks.LessEquals = pure.less_equals
mark_of marks.Greater = pure.greater
mark_of marks.GreaterEquals = pure.greater_equals
mark_of marks.DoubleLess = pure.double_less
mark_of marks.DoubleGreater = pure.double_greater
mark_of marks.TripleLess = pure.triple_less
mark_of marks.TripleGreater = pure.triple_greater
mark_of marks.DoubleEquals = pure.double_equals
mark_of marks.ExclamationEquals = pure.exclamation_equals
mark_of marks.TripleEquals = pure.triple_equals
mark_of marks.ExclamationDoubleEquals = pure.exclamation_double_equals

abbrev pub token_of_kind : TokenKind → List ℕ → pure.Token
token_of_kind kinds.Word text = pure.word text
token_of_kind kinds.System text = pure.system text
token_of_kind kinds.Decimal text = pure.decimal text
token_of_kind kinds.Based text = pure.based text
token_of_kind (kinds.Mark m) text = pure.mark (mark_of m)

-- the pure token
abbrev pub token_of : Token → pure.Token
token_of t = token_of_kind t.kind t.text.now

abbrev pub tokens_of : List Token → List pure.Token
tokens_of ts = map token_of ts
