-- The tokens of Verilog text (IEEE 1364-2005, clause 3).
use Rattle.std.specs.Prelude.{ℕ, List, [], ◌∷◌, codes}
use Rattle.wb_values.specs.Value.{Name}

-- The operators and marks of the grammar, named by what they look like.
pub data Mark : Type 0 where
  -- ( ) [ ] { }
  left_parenthesis right_parenthesis left_bracket right_bracket left_brace right_brace : Mark
  -- , ; : . # @ ? = +: -:
  comma semicolon colon dot hash at question equals plus_colon minus_colon : Mark
  -- + - * ** / %
  plus minus star double_star slash percent : Mark
  -- ! ~ & ~& | ~| ^ ~^ ^~ && ||
  exclamation tilde ampersand tilde_ampersand bar tilde_bar caret tilde_caret caret_tilde double_ampersand double_bar : Mark
  -- < <= > >= << >> <<< >>>
  less less_equals greater greater_equals double_less double_greater triple_less triple_greater : Mark
  -- == != === !==
  double_equals exclamation_equals triple_equals exclamation_double_equals : Mark

pub data Token : Type 0 where
  -- an identifier or a word of the grammar
  word : Name → Token
  -- $signed or $unsigned, with its $
  system : Name → Token
  -- a plain decimal: its digits and _
  decimal : (text : List ℕ) → Token
  -- a based number without its size, from the quote on, with the blanks that stand between its base and its digits
  based : (text : List ℕ) → Token
  mark : Mark → Token

-- the text of an operator or a mark
abbrev pub spelling_of : Mark → List ℕ
spelling_of left_parenthesis = codes "("
spelling_of right_parenthesis = codes ")"
spelling_of left_bracket = codes "["
spelling_of right_bracket = codes "]"
spelling_of left_brace = codes "{"
spelling_of right_brace = codes "}"
spelling_of comma = codes ","
spelling_of semicolon = codes ";"
spelling_of colon = codes ":"
spelling_of dot = codes "."
spelling_of hash = codes "#"
spelling_of at = codes "@"
spelling_of question = codes "?"
spelling_of equals = codes "="
spelling_of plus_colon = codes "+:"
spelling_of minus_colon = codes "-:"
spelling_of plus = codes "+"
spelling_of minus = codes "-"
spelling_of star = codes "*"
spelling_of double_star = codes "**"
spelling_of slash = codes "/"
spelling_of percent = codes "%"
spelling_of exclamation = codes "!"
spelling_of tilde = codes "~"
spelling_of ampersand = codes "&"
spelling_of tilde_ampersand = codes "~&"
spelling_of bar = codes "|"
spelling_of tilde_bar = codes "~|"
spelling_of caret = codes "^"
spelling_of tilde_caret = codes "~^"
spelling_of caret_tilde = codes "^~"
spelling_of double_ampersand = codes "&&"
spelling_of double_bar = codes "||"
spelling_of less = codes "<"
spelling_of less_equals = codes "<="
spelling_of greater = codes ">"
spelling_of greater_equals = codes ">="
spelling_of double_less = codes "<<"
spelling_of double_greater = codes ">>"
spelling_of triple_less = codes "<<<"
spelling_of triple_greater = codes ">>>"
spelling_of double_equals = codes "=="
spelling_of exclamation_equals = codes "!="
spelling_of triple_equals = codes "==="
spelling_of exclamation_double_equals = codes "!=="

-- all operators and marks
unfoldable pub marks : List Mark
marks =
    triple_less ∷ triple_greater ∷ triple_equals ∷ exclamation_double_equals ∷ plus_colon ∷ minus_colon ∷ double_star ∷ tilde_ampersand ∷ tilde_bar ∷ tilde_caret ∷ caret_tilde
    ∷ double_ampersand ∷ double_bar ∷ less_equals ∷ greater_equals ∷ double_less ∷ double_greater ∷ double_equals ∷ exclamation_equals ∷ left_parenthesis ∷ right_parenthesis
    ∷ left_bracket ∷ right_bracket ∷ left_brace ∷ right_brace ∷ comma ∷ semicolon ∷ colon ∷ dot ∷ hash ∷ at ∷ question ∷ equals ∷ plus ∷ minus ∷ star ∷ slash ∷ percent
    ∷ exclamation ∷ tilde ∷ ampersand ∷ bar ∷ caret ∷ less ∷ greater ∷ []

-- the text of a token
abbrev pub text_of : Token → List ℕ
text_of (word n) = n
text_of (system n) = n
text_of (decimal text) = text
text_of (based text) = text
text_of (mark m) = spelling_of m
