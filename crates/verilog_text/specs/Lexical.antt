-- What stands at the front of a Verilog text: the lexical conventions and the forms of directives (IEEE 1364-2005, clauses 3 and 19).
use Prim.Native.Char.{code}
use Rattle.std.specs.Prelude.{ℕ, zero, suc, ◌+◌, Bool, true, false, cond, not, ◌&&◌, ◌||◌, ◌==◌, nat_le, nat_lt, ◌-◌, List, [], ◌∷◌, length, take, drop, Option, Some, None, option_map, option_and_then, codes}
use Rattle.std.specs.List.{list_all, list_any}
use Rattle.std.specs.Str.{bytes_eq}
use Rattle.wb_values.specs.Value.{Name, same_name}
use Rattle.wb_values.specs.ReservedWords.{grammar_words, is_reserved}
use Rattle.wb_values.specs.Names.{is_letter, is_digit, begins_with}
use Rattle.verilog_text.specs.Token.{Mark, left_parenthesis, slash, spelling_of, marks, Token, word, system, decimal, based, mark}

-- ---- bytes

-- space, tab, carriage return, form feed
abbrev pub is_line_blank : ℕ → Bool
is_line_blank b = b == code " " || b == code "\t" || b == code "\r" || b == code "\u{c}"

abbrev pub is_line_feed : ℕ → Bool
is_line_feed b = b == code "\n"

-- a blank (3.2)
abbrev pub is_blank : ℕ → Bool
is_blank b = is_line_blank b || is_line_feed b

-- a letter, a digit, _ or $
abbrev pub is_word_byte : ℕ → Bool
is_word_byte b = is_letter b || is_digit b || b == code "$"

-- a digit or _
abbrev pub is_decimal_byte : ℕ → Bool
is_decimal_byte b = is_digit b || b == code "_"

-- a printable character of ASCII that is no blank
abbrev pub is_graphic : ℕ → Bool
is_graphic b = nat_le (code "!") b && nat_le b (code "~")

-- how many bytes at the front pass the test
unfoldable pub run_length : (ℕ → Bool) → List ℕ → ℕ
run_length p [] = 0
run_length p (b ∷ bs) = cond (p b) (suc (run_length p bs)) 0

-- a line ends here: LF, or CR LF
abbrev pub ends_line : List ℕ → Bool
ends_line [] = false
ends_line (b ∷ bs) = b == code "\n" || b == code "\r" && begins_with is_line_feed bs

-- A blank in front of more text. Inside the text of a macro a backslash that continued a line of its definition is one too.
abbrev pub is_blank_before : (is_macro : Bool) → ℕ → List ℕ → Bool
is_blank_before is_macro b more = is_blank b || is_macro && b == code "\\" && ends_line more

unfoldable pub blank_length : (is_macro : Bool) → List ℕ → ℕ
blank_length is_macro [] = 0
blank_length is_macro (b ∷ bs) = cond (is_blank_before is_macro b bs) (suc (blank_length is_macro bs)) 0

-- up to the line's end
abbrev pub line_length : List ℕ → ℕ
line_length text = run_length (λ b. not (is_line_feed b)) text

-- Up to and with the first c that a b stands before; whether such a b stands in front of the text. The star that begins a comment
-- or an attribute is none: /*/ is no whole comment.
unfoldable pub closing_length : (b c : ℕ) → (behind_b : Bool) → List ℕ → Option ℕ
closing_length b c behind_b [] = None
closing_length b c behind_b (x ∷ xs) = cond (behind_b && x == c) (Some 1) (option_map suc (closing_length b c (x == b) xs))

-- Up to and with the quote that ends a string; a backslash takes the byte behind it along (3.6). A string ends on its line.
unfoldable pub string_length : (escaped : Bool) → List ℕ → Option ℕ
string_length escaped [] = None
string_length escaped (b ∷ bs) =
    cond (b == code "\n") None (
    cond (not escaped && b == code "\"") (Some 1) (
    option_map suc (string_length (not escaped && b == code "\\") bs)))

-- ---- what is at the front

-- What a text says at its front.
pub data Piece : Type 0 where
  -- blanks, a comment, an attribute, the line of a directive that means nothing here
  nothing : Piece
  token : Token → Piece
  -- what 1364 has and this subset leaves out: a word, a string, a real number, an escaped identifier, a $ name
  excluded : Piece
  -- a directive that is written wrongly
  misdirected : Piece
  define : Name → (text : List ℕ) → Piece
  undefine : Name → Piece
  -- `ifdef (true) and `ifndef (false)
  if_defined : Bool → Name → Piece
  else_if : Name → Piece
  otherwise : Piece
  end_if : Piece
  -- the use of a macro
  use_of : Name → Piece

-- The piece at the front, and how many bytes behind its first belong to it; where something begins so.
abbrev pub Front : Type 0
Front = Option (Piece × ℕ)

-- with so many more bytes in front
abbrev pub further : ℕ → Front → Front
further n (Some f) = Some (f.0, n + f.1)
further n None = None

-- a piece with so many bytes behind its first, where it has an end
abbrev pub if_closed : Piece → Option ℕ → Front
if_closed p (Some n) = Some (p, n)
if_closed p None = None

-- ---- tokens

-- the text begins with those characters
abbrev pub is_prefix : List ℕ → (text : List ℕ) → Bool
is_prefix [] text = true
is_prefix (c ∷ cs) [] = false
is_prefix (c ∷ cs) (b ∷ bs) = b == c && is_prefix cs bs

-- that mark, or another one that is longer
abbrev pub or_longer : Mark → Option Mark → Mark
or_longer m None = m
or_longer m (Some other) = cond (nat_lt (length (spelling_of m)) (length (spelling_of other))) other m

-- the longest of some marks that the text begins with
unfoldable pub longest_of : List Mark → (text : List ℕ) → Option Mark
longest_of [] text = None
longest_of (m ∷ ms) text = cond (is_prefix (spelling_of m) text) (Some (or_longer m (longest_of ms text))) (longest_of ms text)

abbrev pub mark_front : Option Mark → Front
mark_front (Some m) = Some (token (mark m), length (spelling_of m) - 1)
mark_front None = None

-- the longest mark that is a prefix of a byte and what stands behind it
unfoldable pub mark_at : ℕ → List ℕ → Front
mark_at b bs = mark_front (longest_of marks (b ∷ bs))

-- reserved (annex B), and no word of the grammar
abbrev pub is_excluded : Name → Bool
is_excluded w = is_reserved w && not (list_any (bytes_eq w) grammar_words)

unfoldable pub word_piece : Name → Piece
word_piece w = cond (is_excluded w) excluded (token (word w))

-- an identifier or a reserved word (3.7)
unfoldable pub word_front : ℕ → List ℕ → Front
word_front b bs = Some (word_piece (b ∷ take (run_length is_word_byte bs) bs), run_length is_word_byte bs)

-- the point and the digits of a real number (3.5.2)
unfoldable pub fraction_length : List ℕ → Option ℕ
fraction_length [] = None
fraction_length (b ∷ bs) = cond (b == code "." && begins_with is_digit bs) (Some (suc (run_length is_decimal_byte bs))) None

-- digits, perhaps behind a sign
unfoldable pub signed_length : List ℕ → Option ℕ
signed_length [] = None
signed_length (b ∷ bs) = cond (is_digit b || (b == code "+" || b == code "-") && begins_with is_digit bs) (Some (suc (run_length is_decimal_byte bs))) None

-- the exponent of a real number
unfoldable pub exponent_length : List ℕ → Option ℕ
exponent_length [] = None
exponent_length (b ∷ bs) = cond (b == code "e" || b == code "E") (option_map suc (signed_length bs)) None

abbrev pub or_zero : Option ℕ → ℕ
or_zero (Some n) = n
or_zero None = 0

abbrev pub real_from : List ℕ → Option ℕ → Option ℕ
real_from text (Some n) = Some (n + or_zero (exponent_length (drop n text)))
real_from text None = exponent_length text

-- what makes digits in front of it a real number: a fraction, an exponent, or both
unfoldable pub real_length : List ℕ → Option ℕ
real_length text = real_from text (fraction_length text)

abbrev pub number_front : ℕ → List ℕ → (digits : ℕ) → Option ℕ → Front
number_front b bs n (Some k) = Some (excluded, n + k)
number_front b bs n None = Some (token (decimal (b ∷ take n bs)), n)

-- a plain decimal (3.5.1), or a real number
unfoldable pub number_at : ℕ → List ℕ → Front
number_at b bs = number_front b bs (run_length is_decimal_byte bs) (real_length (drop (run_length is_decimal_byte bs) bs))

-- b, o, d or h, in either case
abbrev pub is_base : ℕ → Bool
is_base b = b == code "b" || b == code "B" || b == code "o" || b == code "O" || b == code "d" || b == code "D" || b == code "h" || b == code "H"

abbrev pub is_decimal_base : ℕ → Bool
is_decimal_base b = b == code "d" || b == code "D"

-- x, z or ?
abbrev pub is_unknown_digit : ℕ → Bool
is_unknown_digit b = b == code "x" || b == code "X" || b == code "z" || b == code "Z" || b == code "?"

abbrev pub is_hexadecimal_digit : ℕ → Bool
is_hexadecimal_digit b = is_digit b || nat_le (code "a") b && nat_le b (code "f") || nat_le (code "A") b && nat_le b (code "F")

-- a digit of a based number (3.5.1)
unfoldable pub is_digit_of : (base : ℕ) → ℕ → Bool
is_digit_of base b =
    cond (is_decimal_base base) (is_digit b) (is_unknown_digit b ||
    cond (base == code "b" || base == code "B") (b == code "0" || b == code "1") (
    cond (base == code "o" || base == code "O") (nat_le (code "0") b && nat_le b (code "7")) (is_hexadecimal_digit b)))

-- what the digits of a number run over: letters, digits, _ and, but for the decimal base, ?
abbrev pub runs_on : (base : ℕ) → ℕ → Bool
runs_on base b = is_letter b || is_digit b || b == code "?" && not (is_decimal_base base)

-- digits of the base and _, one digit at least
unfoldable pub are_digits_of : (base : ℕ) → List ℕ → Bool
are_digits_of base text = list_any (is_digit_of base) text && list_all (λ b. is_digit_of base b || b == code "_") text

-- the digits behind the base and blanks, where they are right: how many bytes all this takes
abbrev pub if_digits : (base : ℕ) → (text : List ℕ) → (blanks : ℕ) → Option ℕ
if_digits base text n =
    cond (are_digits_of base (take (run_length (runs_on base) (drop n text)) (drop n text)))
    (Some (n + run_length (runs_on base) (drop n text))) None

unfoldable pub digits_length : (is_macro : Bool) → (base : ℕ) → List ℕ → Option ℕ
digits_length is_macro base text = if_digits base text (blank_length is_macro text)

-- a base, its blanks and digits
unfoldable pub base_length : (is_macro : Bool) → List ℕ → Option ℕ
base_length is_macro [] = None
base_length is_macro (b ∷ bs) = cond (is_base b) (option_map suc (digits_length is_macro b bs)) None

-- what stands behind the quote of a based number: perhaps s, then the base
unfoldable pub behind_quote : (is_macro : Bool) → List ℕ → Option ℕ
behind_quote is_macro [] = None
behind_quote is_macro (b ∷ bs) = cond (b == code "s" || b == code "S") (option_map suc (base_length is_macro bs)) (base_length is_macro (b ∷ bs))

abbrev pub based_of : ℕ → List ℕ → Option ℕ → Front
based_of b bs (Some n) = Some (token (based (b ∷ take n bs)), n)
based_of b bs None = None

-- a based number without its size (3.5.1), by its quote and what stands behind
unfoldable pub based_at : (is_macro : Bool) → ℕ → List ℕ → Front
based_at is_macro b bs = based_of b bs (behind_quote is_macro bs)

unfoldable pub system_piece : Name → Piece
system_piece w = cond (same_name w (codes "$signed") || same_name w (codes "$unsigned")) (token (system w)) excluded

-- $signed, $unsigned, and other names with $ (3.7.3)
unfoldable pub system_at : ℕ → List ℕ → Front
system_at b bs =
    cond (begins_with is_word_byte bs) (Some (system_piece (b ∷ take (run_length is_word_byte bs) bs), run_length is_word_byte bs)) None

-- an escaped identifier (3.7.1), behind its backslash
unfoldable pub escaped_at : List ℕ → Front
escaped_at bs = cond (begins_with is_graphic bs) (Some (excluded, run_length is_graphic bs)) None

-- a comment (3.3) or an operator, behind a slash
unfoldable pub slash_at : List ℕ → Front
slash_at [] = Some (token (mark slash), 0)
slash_at (b ∷ bs) =
    cond (b == code "/") (Some (nothing, suc (line_length bs))) (
    cond (b == code "*") (if_closed nothing (option_map suc (closing_length (code "*") (code "/") false bs)))
    (Some (token (mark slash), 0)))

-- Behind (* and blanks stands ): no attribute.
unfoldable pub is_star_alone : (is_macro : Bool) → List ℕ → Bool
is_star_alone is_macro text = begins_with (λ b. b == code ")") (drop (blank_length is_macro text) text)

-- an attribute (3.8), or a bracket alone, behind the bracket
unfoldable pub bracket_at : (is_macro : Bool) → List ℕ → Front
bracket_at is_macro [] = Some (token (mark left_parenthesis), 0)
bracket_at is_macro (b ∷ bs) =
    cond (b == code "*" && not (is_star_alone is_macro bs)) (if_closed nothing (option_map suc (closing_length (code "*") (code ")") false bs)))
    (Some (token (mark left_parenthesis), 0))

-- ---- text that is not read as tokens: the text of a definition, and what a conditional leaves out

-- What is passed over with a byte, as one: a comment /* */, a string that is closed on its line (in it a backslash takes the byte after
-- it along; a quote without a partner on its line is passed over alone). The length of it behind that byte; a comment has an end.
unfoldable pub passed_length : ℕ → List ℕ → Option ℕ
passed_length b bs =
    cond (b == code "/" && begins_with (λ c. c == code "*") bs) (option_map suc (closing_length (code "*") (code "/") false (drop 1 bs))) (
    cond (b == code "\"") (Some (or_zero (string_length false bs))) (Some 0))

-- The text of a definition goes on behind a backslash that a line's end follows directly (19.3.1): how many bytes this end has.
unfoldable pub continued_length : List ℕ → ℕ
continued_length [] = 0
continued_length (b ∷ bs) = cond (b == code "\n") 1 (cond (b == code "\r" && begins_with is_line_feed bs) 2 0)

-- What is passed over with a byte of the text of a definition. A backslash takes along a line's end and nothing else.
unfoldable pub defined_length : ℕ → List ℕ → Option ℕ
defined_length b bs = cond (b == code "\\") (Some (continued_length bs)) (passed_length b bs)

-- the line's end or a comment // ends the text of a definition
abbrev pub ends_definition : ℕ → List ℕ → Bool
ends_definition b bs = b == code "\n" || b == code "/" && begins_with (λ c. c == code "/") bs

-- The length of a definition's text (19.3.1), behind so many bytes of it that are passed over.
unfoldable pub definition_length : ℕ → List ℕ → Option ℕ
definition_length n [] = Some 0
definition_length (suc n) (b ∷ bs) = option_map suc (definition_length n bs)
definition_length zero (b ∷ bs) =
    cond (ends_definition b bs) (Some 0)
    (option_and_then (λ n. option_map suc (definition_length n bs)) (defined_length b bs))

-- ---- directives (19)

-- the name that stands behind a directive's word on its line, and how many bytes up to the name's end
unfoldable pub name_behind : List ℕ → Option (Name × ℕ)
name_behind text =
    cond (begins_with is_letter (drop (run_length is_line_blank text) text))
    (Some (
      take (run_length is_word_byte (drop (run_length is_line_blank text) text)) (drop (run_length is_line_blank text) text),
      run_length is_line_blank text + run_length is_word_byte (drop (run_length is_line_blank text) text),
    ))
    None

-- a directive with a name: without one it is written wrongly
abbrev pub with_name : (Name → Piece) → Option (Name × ℕ) → Front
with_name f (Some n) = Some (f n.0, n.1)
with_name f None = Some (misdirected, 0)

-- A definition: a bracket directly behind its name would begin arguments.
abbrev pub definition_of : Name → List ℕ → Option ℕ → Front
definition_of n text (Some k) = Some (cond (begins_with (λ b. b == code "(") text) misdirected (define n (take k text)), k)
definition_of n text None = None

abbrev pub definition_from : List ℕ → Option (Name × ℕ) → Front
definition_from text (Some n) = further n.1 (definition_of n.0 (drop n.1 text) (definition_length 0 (drop n.1 text)))
definition_from text None = Some (misdirected, 0)

unfoldable pub definition_at : List ℕ → Front
definition_at text = definition_from text (name_behind text)

-- the directives of conditionals (19.4), by their word and what stands behind it
unfoldable pub conditional_directive_at : Name → List ℕ → (other : Front) → Front
conditional_directive_at w text other =
    cond (same_name w (codes "ifdef")) (with_name (if_defined true) (name_behind text)) (
    cond (same_name w (codes "ifndef")) (with_name (if_defined false) (name_behind text)) (
    cond (same_name w (codes "elsif")) (with_name else_if (name_behind text)) (
    cond (same_name w (codes "else")) (Some (otherwise, 0)) (
    cond (same_name w (codes "endif")) (Some (end_if, 0)) other))))

-- the directives that mean nothing for the subset: their lines are passed over
abbrev pub is_line_word : Name → Bool
is_line_word w =
    same_name w (codes "timescale") || same_name w (codes "default_nettype") || same_name w (codes "line") ||
    same_name w (codes "resetall") || same_name w (codes "celldefine") || same_name w (codes "endcelldefine")

-- the other directives, and uses of macros
unfoldable pub directive_from : Name → List ℕ → Front
directive_from w text =
    cond (same_name w (codes "define")) (definition_at text) (
    cond (same_name w (codes "undef")) (with_name undefine (name_behind text)) (
    cond (is_line_word w) (Some (nothing, line_length text)) (Some (use_of w, 0))))

-- behind a backquote, by the word and what stands behind it
abbrev pub directive_of : Name → List ℕ → Front
directive_of w text = conditional_directive_at w text (directive_from w text)

unfoldable pub directive_at : List ℕ → Front
directive_at text =
    cond (begins_with is_letter text)
    (further (run_length is_word_byte text) (directive_of (take (run_length is_word_byte text) text) (drop (run_length is_word_byte text) text)))
    None

-- the same in text that a conditional leaves out, where the directives of conditionals alone count
unfoldable pub conditional_behind : List ℕ → Front
conditional_behind text =
    further (run_length is_word_byte text)
    (conditional_directive_at (take (run_length is_word_byte text) text) (drop (run_length is_word_byte text) text) (Some (nothing, 0)))

-- ---- the front of a text: its first byte and what stands behind it

-- of a text that is read, the text of a macro or a file
unfoldable pub read_at : (is_macro : Bool) → ℕ → List ℕ → Front
read_at is_macro b bs =
    cond (is_blank_before is_macro b bs) (Some (nothing, blank_length is_macro bs)) (
    cond (is_letter b) (word_front b bs) (
    cond (is_digit b) (number_at b bs) (
    cond (b == code "'") (based_at is_macro b bs) (
    cond (b == code "\"") (if_closed excluded (string_length false bs)) (
    cond (b == code "$") (system_at b bs) (
    cond (b == code "\\") (escaped_at bs) (
    cond (b == code "`") (directive_at bs) (
    cond (b == code "/") (slash_at bs) (
    cond (b == code "(") (bracket_at is_macro bs) (
    mark_at b bs))))))))))

-- of a text that a conditional leaves out; a backslash means something in a string alone
unfoldable pub left_out_at : ℕ → List ℕ → Front
left_out_at b bs =
    cond (b == code "`") (conditional_behind bs) (
    cond (b == code "/" && begins_with (λ c. c == code "/") bs) (Some (nothing, line_length bs))
    (if_closed nothing (passed_length b bs)))
