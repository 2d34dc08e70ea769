-- The marks at the front of a text, by the number of their characters.
use Rattle.std.specs.Prelude.{ℕ, cond, List, [], ◌∷◌, Option, Some, None}
use Rattle.verilog_text.specs.Token.{Mark, left_parenthesis, right_parenthesis, left_bracket, right_bracket, left_brace, right_brace, comma, semicolon, colon, dot, hash, at, question, equals, plus_colon, minus_colon, plus, minus, star, double_star, slash, percent, exclamation, tilde, ampersand, tilde_ampersand, bar, tilde_bar, caret, tilde_caret, caret_tilde, double_ampersand, double_bar, less, less_equals, greater, greater_equals, double_less, double_greater, triple_less, triple_greater, double_equals, exclamation_equals, triple_equals, exclamation_double_equals, spelling_of, mark}
use Rattle.verilog_text.specs.Lexical.{is_prefix, Front, token}

abbrev pub triples : List Mark
triples = triple_less ∷ triple_greater ∷ triple_equals ∷ exclamation_double_equals ∷ []

abbrev pub doubles : List Mark
doubles =
    plus_colon ∷ minus_colon ∷ double_star ∷ tilde_ampersand ∷ tilde_bar ∷ tilde_caret ∷ caret_tilde ∷ double_ampersand ∷ double_bar ∷ less_equals ∷ greater_equals
    ∷ double_less ∷ double_greater ∷ double_equals ∷ exclamation_equals ∷ []

abbrev pub singles : List Mark
singles =
    left_parenthesis ∷ right_parenthesis ∷ left_bracket ∷ right_bracket ∷ left_brace ∷ right_brace ∷ comma ∷ semicolon ∷ colon ∷ dot ∷ hash ∷ at ∷ question ∷ equals ∷ plus ∷ minus
    ∷ star ∷ slash ∷ percent ∷ exclamation ∷ tilde ∷ ampersand ∷ bar ∷ caret ∷ less ∷ greater ∷ []

-- the first of some marks that the text begins with
abbrev pub first_of : List Mark → (text : List ℕ) → Option Mark
first_of [] text = None
first_of (m ∷ ms) text = cond (is_prefix (spelling_of m) text) (Some m) (first_of ms text)

unfoldable pub mark_of_three : ℕ → ℕ → ℕ → Option Mark
mark_of_three b c d = first_of triples (b ∷ c ∷ d ∷ [])

unfoldable pub mark_of_two : ℕ → ℕ → Option Mark
mark_of_two b c = first_of doubles (b ∷ c ∷ [])

unfoldable pub mark_of_one : ℕ → Option Mark
mark_of_one b = first_of singles (b ∷ [])

-- that mark, with so many bytes behind its first, or else the shorter one
abbrev pub or_shorter : Option Mark → ℕ → Front → Front
or_shorter (Some m) n shorter = Some (token (mark m), n)
or_shorter None n shorter = shorter

-- the longest mark that begins with a byte, by what stands behind it
unfoldable pub mark_by_length : ℕ → List ℕ → Front
mark_by_length b [] = or_shorter (mark_of_one b) 0 None
mark_by_length b (c ∷ []) = or_shorter (mark_of_two b c) 1 (or_shorter (mark_of_one b) 0 None)
mark_by_length b (c ∷ d ∷ bs) = or_shorter (mark_of_three b c d) 2 (or_shorter (mark_of_two b c) 1 (or_shorter (mark_of_one b) 0 None))
