-- Which bytes may stand directly after a token of a printed text, and which tokens such a text has.
use Prim.Native.Char.{code}
use Rattle.std.specs.Prelude.{◌≡◌, ℕ, ◌≤◌, length, Bool, true, false, not, ◌&&◌, ◌||◌, ◌==◌, List, [], ◌∷◌, ◌++◌, codes}
use Rattle.std.specs.List.{list_any, list_all}
use Rattle.std.specs.Char.{is_ascii}
use Rattle.wb_values.specs.Value.{Name, same_name}
use Rattle.wb_values.specs.Names.{is_letter, is_digit}
use Rattle.verilog_text.specs.Token.{Mark, left_parenthesis, right_parenthesis, left_bracket, right_bracket, left_brace, right_brace, comma, semicolon, colon, dot, hash, at, question, plus, minus, exclamation, tilde, ampersand, tilde_ampersand, bar, tilde_bar, caret, tilde_caret, Token, word, system, decimal, based, mark}
use Rattle.verilog_text.specs.Lexical.{nothing, token, is_word_byte, is_excluded}
use Rattle.verilog_text.specs.Text.{Part, piece, with_parts, with_macro_text, tokens_read}
use Rattle.v_print.specs.declared.last.Last.{Last}
use Rattle.v_print.specs.declared.last.Last.TheVariants.{Blank, Run, Digits, Opened, Stop, Prefix, Operator}

-- ---- what may follow

abbrev pub is_among : List ℕ → ℕ → Bool
is_among bytes b = list_any (λ c. c == b) bytes

-- A byte may follow what stands last with no blank between.
abbrev pub may_follow : Last → ℕ → Bool
may_follow Blank b = true
may_follow Run b = is_among (codes " \n()[]{},;:") b
may_follow Digits b = is_among (codes " \n()[]{},;:'") b
may_follow Opened b = not (b == code "*")
may_follow Stop b = true
may_follow Prefix b = is_letter b || (is_digit b || is_among (codes " \n({'$") b)
may_follow Operator b = is_among (codes " \n") b

-- a text may
abbrev pub may_go_on : Last → List ℕ → Bool
may_go_on last [] = true
may_go_on last (b ∷ bs) = may_follow last b

abbrev pub last_of_mark : Mark → Last
last_of_mark left_parenthesis = Opened
last_of_mark right_parenthesis = Stop
last_of_mark left_bracket = Stop
last_of_mark right_bracket = Stop
last_of_mark left_brace = Stop
last_of_mark right_brace = Stop
last_of_mark comma = Stop
last_of_mark semicolon = Stop
last_of_mark colon = Stop
last_of_mark dot = Stop
last_of_mark hash = Stop
last_of_mark at = Stop
last_of_mark question = Stop
last_of_mark plus = Prefix
last_of_mark minus = Prefix
last_of_mark exclamation = Prefix
last_of_mark tilde = Prefix
last_of_mark ampersand = Prefix
last_of_mark tilde_ampersand = Prefix
last_of_mark bar = Prefix
last_of_mark tilde_bar = Prefix
last_of_mark caret = Prefix
last_of_mark tilde_caret = Prefix
last_of_mark _ = Operator

-- ---- tokens as they are printed

-- a letter or _, then letters, digits, _ and $, and no word that the subset leaves out
abbrev pub is_printed_word : Name → Bool
is_printed_word [] = false
is_printed_word (b ∷ bs) = is_letter b && (list_all is_word_byte bs && not (is_excluded (b ∷ bs)))

-- digits
abbrev pub is_printed_decimal : List ℕ → Bool
is_printed_decimal [] = false
is_printed_decimal (b ∷ bs) = is_digit b && list_all is_digit bs

-- 0, 1, x or ?
abbrev pub is_bit_digit : ℕ → Bool
is_bit_digit b = b == code "0" || (b == code "1" || (b == code "x" || b == code "?"))

abbrev pub is_printed_binary : List ℕ → Bool
is_printed_binary [] = false
is_printed_binary (b ∷ bs) = is_bit_digit b && list_all is_bit_digit bs

-- from the base on: d and digits, or b and digits of bits
abbrev pub is_printed_base : List ℕ → Bool
is_printed_base [] = false
is_printed_base (b ∷ digits) = b == code "d" && is_printed_decimal digits || b == code "b" && is_printed_binary digits

-- the quote, perhaps s, the base and the digits
abbrev pub is_printed_based : List ℕ → Bool
is_printed_based (quote ∷ s ∷ text) = quote == code "'" && (s == code "s" && is_printed_base text || is_printed_base (s ∷ text))
is_printed_based _ = false

unfoldable pub is_printed : Token → Bool
is_printed (word n) = is_printed_word n
is_printed (system n) = same_name n (codes "$signed") || same_name n (codes "$unsigned")
is_printed (decimal text) = is_printed_decimal text
is_printed (based text) = is_printed_based text
is_printed (mark m) = true

abbrev pub are_printed : List Token → Bool
are_printed ts = list_all is_printed ts

-- ---- the tokens of a text

-- parts that are tokens and blanks alone
abbrev pub IsCalm : List Part → Type 0
IsCalm [] = Unit {0}
IsCalm (piece nothing ∷ before) = IsCalm before
IsCalm (piece (token t) ∷ before) = IsCalm before
IsCalm (_ ∷ before) = ⊥

-- what a text adds to the parts before it
unfoldable pub after_text : List ℕ → List Part → List Part
after_text bytes before = with_parts false (with_macro_text 64) 0 bytes before

-- After tokens and blanks a text adds these tokens, and blanks.
pub record HasTokens (bytes : List ℕ) (ts : List Token) : Type 0 where
  pub is_plain : list_all is_ascii bytes ≡ true
  pub is_calm : (before : List Part) → IsCalm before → IsCalm (after_text bytes before)
  pub tokens : (before : List Part) → IsCalm before → tokens_read (after_text bytes before) ≡ tokens_read before ++ ts
  pub are_few : length ts ≤ length bytes

-- The same where the tokens are such as are printed.
abbrev pub ReadsAs : List ℕ → List Token → Type 0
ReadsAs bytes ts = are_printed ts ≡ true → HasTokens bytes ts
