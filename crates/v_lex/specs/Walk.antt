-- The tokens of files as the code reads them: one state behind each piece of the text.
use Rattle.std.specs.Prelude.{ℕ, zero, suc, ◌+◌, Bool, true, false, cond, not, ◌&&◌, nat_le, nat_lt, List, [], ◌∷◌, ◌++◌, length, Option, Some, None, Result, Ok, Err}
use Rattle.std.specs.List.{list_all}
use Rattle.std.specs.Str.{is_utf8}
use Rattle.wb_values.specs.Value.{Name, same_name}
use Rattle.verilog_text.specs.Token.{Token}
use Rattle.verilog_text.specs.Lexical.{Piece, nothing, token, excluded, misdirected, define, undefine, if_defined, else_if, otherwise, end_if, use_of, Front, read_at, left_out_at}
use Rattle.verilog_text.specs.Text.{Refusal, not_text, bad_token, bad_directive, unsupported, too_deep, Conditional, is_defined, leaves_out, first_branch, next_branch, most_tokens, most_used, is_zero, is_based, without_byte_order_mark, is_too_deep}

pub record Reading : Type 0 where
  pub macros : Name → Option (List ℕ)
  -- the open conditionals of this file, the innermost first
  pub conditionals : List Conditional
  pub tokens : List Token
  -- the token before is a plain decimal of value 0
  pub behind_zero : Bool
  -- the bytes of the macros' texts, counted at each use
  pub used : ℕ
  pub has_bad_directive : Bool
  pub has_left_out : Bool

abbrev pub first_reading : Reading
first_reading = record { macros = λ n. None; conditionals = []; tokens = []; behind_zero = false; used = 0; has_bad_directive = false; has_left_out = false }

-- The reading behind a part of the text, or why it ends there. It ends where no token begins and where a limit is passed; at
-- other faults it goes on, since what begins no token is refused first wherever it stands.
abbrev pub Outcome : Type 0
Outcome = Result Reading Refusal

abbrev pub then : Outcome → (Reading → Outcome) → Outcome
then (Ok r) f = f r
then (Err e) f = Err e

-- ---- one piece

abbrev pub with_bad_directive : Reading → Reading
with_bad_directive r = record { macros = r.macros; conditionals = r.conditionals; tokens = r.tokens; behind_zero = r.behind_zero; used = r.used; has_bad_directive = true; has_left_out = r.has_left_out }

abbrev pub with_left_out : Reading → Reading
with_left_out r = record { macros = r.macros; conditionals = r.conditionals; tokens = r.tokens; behind_zero = false; used = r.used; has_bad_directive = r.has_bad_directive; has_left_out = true }

abbrev pub with_conditionals : List Conditional → Reading → Reading
with_conditionals cs r = record { macros = r.macros; conditionals = cs; tokens = r.tokens; behind_zero = r.behind_zero; used = r.used; has_bad_directive = r.has_bad_directive; has_left_out = r.has_left_out }

-- a name defined, or not any more; a later definition replaces an earlier one
abbrev pub with_macro : Name → Option (List ℕ) → Reading → Reading
with_macro n text r = record { macros = λ q. cond (same_name n q) text (r.macros q); conditionals = r.conditionals; tokens = r.tokens; behind_zero = r.behind_zero; used = r.used; has_bad_directive = r.has_bad_directive; has_left_out = r.has_left_out }

abbrev pub with_use : ℕ → Reading → Reading
with_use n r = record { macros = r.macros; conditionals = r.conditionals; tokens = r.tokens; behind_zero = r.behind_zero; used = r.used + n; has_bad_directive = r.has_bad_directive; has_left_out = r.has_left_out }

abbrev pub with_pushed : Token → Reading → Reading
with_pushed t r = record { macros = r.macros; conditionals = r.conditionals; tokens = r.tokens ++ t ∷ []; behind_zero = is_zero t; used = r.used; has_bad_directive = r.has_bad_directive; has_left_out = r.has_left_out }

-- One token more: a size before a based number is above 0.
unfoldable pub with_token : Token → Reading → Outcome
with_token t r =
    cond (r.behind_zero && is_based t) (Err bad_token) (
    cond (nat_lt (length r.tokens) most_tokens) (Ok (with_pushed t r)) (Err bad_directive))

unfoldable pub begun : (holds : Bool) → Reading → Reading
begun holds r = with_conditionals (record { branch = first_branch (leaves_out r.conditionals) holds; has_else = false } ∷ r.conditionals) r

-- an `elsif, or an `else as the last: within a conditional, and not behind its `else
abbrev pub continued_from : List Conditional → (is_last holds : Bool) → Reading → Reading
continued_from [] is_last holds r = with_bad_directive r
continued_from (c ∷ cs) is_last holds r =
    cond c.has_else (with_bad_directive r)
    (with_conditionals (record { branch = next_branch c.branch holds; has_else = is_last } ∷ cs) r)

unfoldable pub continued : (is_last holds : Bool) → Reading → Reading
continued is_last holds r = continued_from r.conditionals is_last holds r

abbrev pub ended_from : List Conditional → Reading → Reading
ended_from [] r = with_bad_directive r
ended_from (c ∷ cs) r = with_conditionals cs r

unfoldable pub ended : Reading → Reading
ended r = ended_from r.conditionals r

-- A macro's text is read where it is used, as it is defined there. Reading it is handed in.
abbrev pub with_text_of : (List ℕ → Reading → Outcome) → Option (List ℕ) → Reading → Outcome
with_text_of read (Some text) r = cond (nat_le (r.used + length text) most_used) (read text (with_use (length text) r)) (Err bad_directive)
with_text_of read None r = Ok (with_bad_directive r)

unfoldable pub with_piece : (List ℕ → Reading → Outcome) → Piece → Reading → Outcome
with_piece read nothing r = Ok r
with_piece read (token t) r = with_token t r
with_piece read excluded r = Ok (with_left_out r)
with_piece read misdirected r = Ok (with_bad_directive r)
with_piece read (define n text) r = Ok (with_macro n (Some text) r)
with_piece read (undefine n) r = Ok (with_macro n None r)
with_piece read (if_defined wanted n) r = Ok (begun (cond wanted (is_defined (r.macros n)) (not (is_defined (r.macros n)))) r)
with_piece read (else_if n) r = Ok (continued false (is_defined (r.macros n)) r)
with_piece read otherwise r = Ok (continued true true r)
with_piece read end_if r = Ok (ended r)
with_piece read (use_of n) r = with_text_of read (r.macros n) r

-- ---- texts and files

unfoldable pub front_at : (is_macro : Bool) → Reading → ℕ → List ℕ → Front
front_at is_macro r b bs = cond (leaves_out r.conditionals) (left_out_at b bs) (read_at is_macro b bs)

-- a piece, and what stands behind it
abbrev pub piece_then : (List ℕ → Reading → Outcome) → Front → Reading → (ℕ → Reading → Outcome) → Outcome
piece_then read (Some f) r more = then (with_piece read f.0 r) (more f.1)
piece_then read None r more = Err bad_token

-- What a text adds, behind so many bytes of it that belong to the piece before: piece by piece. Reading the macros that it uses
-- is handed in.
unfoldable pub text_from : (is_macro : Bool) → (List ℕ → Reading → Outcome) → ℕ → List ℕ → Reading → Outcome
text_from is_macro read n [] r = Ok r
text_from is_macro read (suc n) (b ∷ bs) r = text_from is_macro read n bs r
text_from is_macro read zero (b ∷ bs) r = piece_then read (front_at is_macro r b bs) r (λ n s. text_from is_macro read n bs s)

-- the text of a macro, with so many levels left for uses
unfoldable pub macro_read : (levels : ℕ) → List ℕ → Reading → Outcome
macro_read zero text r = Ok (with_bad_directive r)
macro_read (suc levels) text r = text_from true (macro_read levels) 0 text r

-- Each file is read by itself, and macros carry over.
unfoldable pub opened : Reading → Reading
opened r = record { macros = r.macros; conditionals = []; tokens = r.tokens; behind_zero = r.behind_zero; used = r.used; has_bad_directive = r.has_bad_directive; has_left_out = r.has_left_out }

-- at the end of a file no conditional is open
abbrev pub closed_from : List Conditional → Reading → Reading
closed_from [] r = r
closed_from (c ∷ cs) r = with_bad_directive r

unfoldable pub closed : Reading → Reading
closed r = closed_from r.conditionals r

unfoldable pub file_read : List ℕ → Reading → Outcome
file_read bytes r = then (text_from false (macro_read 64) 0 (without_byte_order_mark bytes) (opened r)) (λ s. Ok (closed s))

unfoldable pub files_read : List (List ℕ) → Reading → Outcome
files_read [] r = Ok r
files_read (f ∷ fs) r = then (file_read f r) (files_read fs)

-- ---- the answer

unfoldable pub judged : Reading → Result (List Token) Refusal
judged r =
    cond r.has_bad_directive (Err bad_directive) (
    cond r.has_left_out (Err unsupported) (
    cond (is_too_deep [] r.tokens) (Err too_deep) (Ok r.tokens)))

abbrev pub judged_from : Outcome → Result (List Token) Refusal
judged_from (Ok r) = judged r
judged_from (Err e) = Err e

-- what the reading of the files comes to
unfoldable pub walked : List (List ℕ) → Result (List Token) Refusal
walked files = cond (list_all is_utf8 files) (judged_from (files_read files first_reading)) (Err not_text)
