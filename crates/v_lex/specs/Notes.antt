-- What a note says.
use Rattle.std.specs.Prelude.{ℕ, zero, suc, ◌+◌, ◌-◌, ◌/◌, ◌%◌, min, Bool, true, false, cond, not, ◌&&◌, ◌||◌, ◌==◌, nat_le, nat_lt, List, [], ◌∷◌, ◌++◌, length, take, drop, map, slice_get, Option, Some, None, codes, decimal}
use Rattle.std.specs.List.{list_any}
use Rattle.wb_values.specs.ReservedWords.{is_reserved}
use Rattle.verilog_text.specs.Lexical.{run_length, is_graphic}
use Rattle.v_token.specs.declared.token.Token.{Token}
use Rattle.v_token.specs.declared.token.TokenKind.{TokenKind}
use Rattle.v_token.specs.declared.token.TokenKind.TheVariants as kinds
use Rattle.v_lex.specs.declared.place.Place.{Place}
use Rattle.v_lex.specs.declared.fault.Remark.{Remark}
use Rattle.v_lex.specs.declared.fault.Remark.TheVariants as remarks
use Rattle.v_lex.specs.declared.fault.Fault.{Fault}

-- printable ASCII, the space included
abbrev pub is_printable : ℕ → Bool
is_printable b = nat_le 32 b && nat_le b 126

-- what is not printable is shown as a question mark
abbrev pub shown : ℕ → ℕ
shown b = cond (is_printable b) b 63

-- ---- where it leads

-- the line and the column behind some bytes, by those in front of them
abbrev pub position_from : (line column : ℕ) → List ℕ → ℕ × ℕ
position_from line column [] = (line, column)
position_from line column (b ∷ bs) = cond (b == 10) (position_from (suc line) 1 bs) (position_from line (suc column) bs)

abbrev pub bytes_or_none : Option (List ℕ) → List ℕ
bytes_or_none (Some bytes) = bytes
bytes_or_none None = []

-- the bytes of a file, where there is one of that number
abbrev pub bytes_at : List (List ℕ) → (file : ℕ) → List ℕ
bytes_at files file = bytes_or_none (slice_get files file)

-- the line and the column of a place in its file, from 1
abbrev pub position_at : List (List ℕ) → Place → ℕ × ℕ
position_at files p = position_from 1 1 (take p.start (bytes_at files p.file))

-- as `line 3 column 7`
abbrev pub position_text : ℕ × ℕ → List ℕ
position_text position = codes "line " ++ (decimal position.0 ++ (codes " column " ++ decimal position.1))

-- a file that is not that one is told by its number from 1, as `file 2 `
abbrev pub file_text : (file other : ℕ) → List ℕ
file_text file other = cond (file == other) [] (codes "file " ++ (decimal (suc other) ++ codes " "))

-- As `, used at line 9 column 1`: that the macro in whose text a place of the first file stands is used at another place, or after it.
abbrev pub use_text : List (List ℕ) → (file : ℕ) → (at_or_after : List ℕ) → Option Place → List ℕ
use_text files file how None = []
use_text files file how (Some u) = codes ", used " ++ how ++ file_text file u.file ++ position_text (position_at files u)

-- ---- what stands there

-- the word at the front, at most 80 bytes of it
abbrev pub word_in : List ℕ → List ℕ
word_in text = take 80 (take (run_length is_graphic text) text)

-- a digit of a number in hexadecimal
abbrev pub hexadecimal_digit : ℕ → ℕ
hexadecimal_digit n = cond (nat_lt n 10) (48 + n) (87 + n)

-- as `byte 0xfc`
abbrev pub byte_text : ℕ → List ℕ
byte_text b = codes "byte 0x" ++ hexadecimal_digit (b / 16) ∷ hexadecimal_digit (b % 16) ∷ []

-- What stands at the front of a text: the word there, or the byte there in hexadecimal if no word begins with it; nothing of an empty text.
abbrev pub front_text : List ℕ → List ℕ
front_text [] = []
front_text (b ∷ bs) = cond (is_graphic b) (word_in (b ∷ bs)) (byte_text b)

-- ---- what is said of it

-- the byte stands among them
abbrev pub has_byte : ℕ → List ℕ → Bool
has_byte b bytes = list_any (λ x. x == b) bytes

-- A file of carriage returns without a line feed is one line, and a note on it says so.
abbrev pub returns_text : List ℕ → List ℕ
returns_text bytes = cond (has_byte 13 bytes && not (has_byte 10 bytes)) (codes "carriage returns alone: ") []

-- which limit is passed, and that a conditional is open at the end of its file
abbrev pub remark_text : Remark → List ℕ
remark_text remarks.Nothing = []
remark_text remarks.NoEnd = codes "without `endif: "
remark_text remarks.ManyLevels = codes "macros past 64 levels: "
remark_text remarks.ManyTokens = codes "past 4194304 tokens: "
remark_text remarks.ManyBytes = codes "macros past 64 MiB: "

-- an identifier
abbrev pub is_identifier_kind : TokenKind → List ℕ → Bool
is_identifier_kind kinds.Word text = not (is_reserved text)
is_identifier_kind _ text = false

abbrev pub is_identifier : Token → Bool
is_identifier t = is_identifier_kind t.kind t.text.now

-- a token's text and some bytes, where it is an identifier
abbrev pub identifier_text : Option Token → List ℕ → List ℕ
identifier_text (Some t) end = cond (is_identifier t) (t.text.now ++ end) []
identifier_text None end = []

-- the last of the first tokens, so many
abbrev pub token_before : List Token → (count : ℕ) → Option Token
token_before tokens zero = None
token_before tokens (suc n) = slice_get tokens n

-- the identifiers, one or two, that end with a token that so many tokens stand before
abbrev pub after_from : List Token → (count : ℕ) → Option Token → List ℕ
after_from tokens count None = []
after_from tokens count (Some t) =
    cond (is_identifier t) (codes "after " ++ identifier_text (token_before tokens (count - 1)) (codes " ") ++ t.text.now ++ codes ": ") []

-- As `after logic: ` or `after int x: `: the identifiers, one or two, behind which the token stands that so many tokens stand before.
abbrev pub after_text : List Token → (count : ℕ) → List ℕ
after_text tokens count = after_from tokens count (token_before tokens count)

-- ---- the note

-- What a note says: the line and the column of a place, where the macro is used whose text it is, what is to be remarked, and what stands
-- there; the first 80 bytes of this.
unfoldable pub note_of : List (List ℕ) → Place → (at_or_after : List ℕ) → (used : Option Place) → (remark : List ℕ) → List ℕ
note_of files p how used remark =
    map shown (take 80 (
    position_text (position_at files p) ++ use_text files p.file how used ++ codes ": " ++ returns_text (bytes_at files p.file) ++ remark
    ++ front_text (drop p.start (bytes_at files p.file))))

-- what the note of a refusal says
abbrev pub note_of_fault : List (List ℕ) → Fault → List ℕ
note_of_fault files f = note_of files f.place (codes "at ") f.used (remark_text f.remark)

-- the place of a token
abbrev pub place_of : Token → Place
place_of t = record { file = t.file; start = t.start }

-- the number of the last file
abbrev pub last_of : List (List ℕ) → ℕ
last_of files = min (length files - 1) 4294967295

-- where the last file ends
abbrev pub end_of : List (List ℕ) → Place
end_of files = record { file = last_of files; start = min (length (bytes_at files (last_of files))) 4294967295 }

-- the place of a token, or the end of the last file
abbrev pub place_or_end : List (List ℕ) → Option Token → Place
place_or_end files (Some t) = place_of t
place_or_end files None = end_of files

-- the number of the file of a token, or of the last file
abbrev pub file_of_token : List (List ℕ) → Option Token → ℕ
file_of_token files t = (place_or_end files t).file

-- One place stands before another in the files.
abbrev pub is_before : Place → Place → Bool
is_before p q = nat_lt p.file q.file || p.file == q.file && nat_lt p.start q.start

abbrev pub further : Option Place → Place → Place
further None p = p
further (Some q) p = cond (is_before q p) p q

abbrev pub furthest_from : Option Place → List Token → Option Place
furthest_from far [] = far
furthest_from far (t ∷ ts) = furthest_from (Some (further far (place_of t))) ts

-- the furthest place in the files at which one of some tokens stands
abbrev pub furthest : List Token → Option Place
furthest tokens = furthest_from None tokens

abbrev pub use_behind : (far : Option Place) → Option Token → Option Place
use_behind (Some q) (Some t) = cond (is_before (place_of t) q) (Some q) None
use_behind _ _ = None

-- After which place the macro is used in whose text the token stands that so many tokens stand before. A definition stands before the
-- uses of its macro, and what is read outside macros is read in the order of the files: so the token is one of a macro's text, if a
-- token before it stands further on, and the macro is used behind all of them.
abbrev pub use_after : List Token → (count : ℕ) → Option Place
use_after tokens count = use_behind (furthest (take count tokens)) (slice_get tokens count)

-- What a note says of the token that so many tokens stand before, or of the end of the last file: the identifiers too behind which it
-- stands, and behind what the macro is used whose text it is.
abbrev pub note_behind : List (List ℕ) → List Token → (count : ℕ) → List ℕ
note_behind files tokens count = note_of files (place_or_end files (slice_get tokens count)) (codes "after ") (use_after tokens count) (after_text tokens count)

-- ---- the place of a number

abbrev pub is_decimal_kind : TokenKind → Bool
is_decimal_kind kinds.Decimal = true
is_decimal_kind _ = false

-- the text of a token ends at a place
abbrev pub ends_at : Token → Place → Bool
ends_at t p = t.file == p.file && (nat_le t.start p.start && p.start - t.start == length t.text.now)

-- Where a number begins whose base stands at a place: with its size, if the token before is one and ends there.
abbrev pub number_place : (before : Option Token) → Place → Place
number_place None p = p
number_place (Some t) p = cond (is_decimal_kind t.kind && ends_at t p) (place_of t) p

-- Where a text begins no token: at its first byte; a number that its base begins, with its size.
abbrev pub stray_place : (before : Option Token) → (text : List ℕ) → Place → Place
stray_place before [] p = p
stray_place before (b ∷ bs) p = cond (b == 39) (number_place before p) p
