-- The tokens of Verilog files: macros and conditionals (IEEE 1364-2005, clause 19), and what is refused.
use Rattle.std.specs.Prelude.{ℕ, zero, suc, ◌+◌, Bool, true, false, cond, not, ◌&&◌, ◌||◌, ◌==◌, nat_lt, List, [], ◌∷◌, ◌++◌, length, drop, Option, Some, None, Result, Ok, Err, codes}
use Rattle.std.specs.List.{list_all}
use Rattle.std.specs.Str.{is_utf8}
use Prim.Native.Char.{code}
use Rattle.wb_values.specs.Value.{Name, same_name}
use Rattle.verilog_text.specs.Token.{Mark, left_parenthesis, right_parenthesis, left_bracket, right_bracket, left_brace, right_brace, semicolon, colon, question, Token, word, decimal, based, mark}
use Rattle.verilog_text.specs.Lexical.{Piece, token, excluded, misdirected, define, undefine, if_defined, else_if, otherwise, end_if, use_of, Front, read_at, left_out_at}

-- why files are refused, in the order in which the kinds are answered
pub data Refusal : Type 0 where
  -- not UTF-8; what begins no token; a wrong directive; what the subset leaves out; nested too deep
  not_text bad_token bad_directive unsupported too_deep : Refusal

-- ---- the parts of files after expansion

-- A part of what is read. Files are a list of parts, the last one first, so that the rest of the list is what was read before.
pub data Part : Type 0 where
  -- What stands at the front of a text. After a use of a macro come the parts of the macro's text.
  piece : Piece → Part
  -- a byte at which no token begins
  stray : Part
  -- a macro is used within 64 others: its text is not read
  nested_use : Part
  end_of_file : Part

-- What a name stands for after some parts: the text of its last definition, if it was not undefined since.
unfoldable pub macro_after : List Part → Name → Option (List ℕ)
macro_after [] n = None
macro_after (piece (define m text) ∷ before) n = cond (same_name m n) (Some text) (macro_after before n)
macro_after (piece (undefine m) ∷ before) n = cond (same_name m n) None (macro_after before n)
macro_after (_ ∷ before) n = macro_after before n

abbrev pub is_defined : Option (List ℕ) → Bool
is_defined (Some text) = true
is_defined None = false

-- Of a conditional: its text is read; no branch was read yet; a branch was read, or none is to be read.
pub data Branch : Type 0 where
  taken waiting passed : Branch

pub record Conditional : Type 0 where
  pub branch : Branch
  pub has_else : Bool

abbrev pub is_taken : Branch → Bool
is_taken taken = true
is_taken _ = false

-- Text is left out where the innermost conditional does not take it. (A conditional in text left out takes none.)
abbrev pub leaves_out : List Conditional → Bool
leaves_out [] = false
leaves_out (c ∷ cs) = not (is_taken c.branch)

abbrev pub first_branch : (is_left_out holds : Bool) → Branch
first_branch is_left_out holds = cond is_left_out passed (cond holds taken waiting)

-- the branch after `else or `elsif, whose condition holds or not
abbrev pub next_branch : Branch → (holds : Bool) → Branch
next_branch waiting holds = cond holds taken waiting
next_branch _ holds = passed

-- one conditional more, whose condition holds or not
abbrev pub with_conditional : (holds : Bool) → List Conditional → List Conditional
with_conditional holds cs = record { branch = first_branch (leaves_out cs) holds; has_else = false } ∷ cs

-- The next branch of the innermost conditional, which has none after its `else.
abbrev pub with_branch : (is_else holds : Bool) → List Conditional → List Conditional
with_branch is_else holds [] = []
with_branch is_else holds (c ∷ cs) = cond c.has_else (c ∷ cs) (record { branch = next_branch c.branch holds; has_else = is_else } ∷ cs)

-- the conditionals that are open after some parts, the innermost first; each file has its own
unfoldable pub open_after : List Part → List Conditional
open_after [] = []
open_after (piece (if_defined true n) ∷ before) = with_conditional (is_defined (macro_after before n)) (open_after before)
open_after (piece (if_defined false n) ∷ before) = with_conditional (not (is_defined (macro_after before n))) (open_after before)
open_after (piece (else_if n) ∷ before) = with_branch false (is_defined (macro_after before n)) (open_after before)
open_after (piece otherwise ∷ before) = with_branch true true (open_after before)
open_after (piece end_if ∷ before) = drop 1 (open_after before)
open_after (end_of_file ∷ before) = []
open_after (_ ∷ before) = open_after before

-- the front of a text that is read after some parts, by its first byte and what stands behind it
unfoldable pub front_after : List Part → (is_macro : Bool) → ℕ → List ℕ → Front
front_after before is_macro b bs = cond (leaves_out (open_after before)) (left_out_at b bs) (read_at is_macro b bs)

-- What a text adds to the parts before it.
abbrev pub Expansion : Type 0
Expansion = List ℕ → List Part → List Part

abbrev pub with_expansion : Expansion → Option (List ℕ) → List Part → List Part
with_expansion expand (Some text) before = expand text before
with_expansion expand None before = before

-- One piece more; a use of a macro takes along the parts of the macro's text. How a text is expanded is handed in.
abbrev pub with_next : Expansion → Piece → List Part → List Part
with_next expand (use_of n) before = with_expansion expand (macro_after before n) (piece (use_of n) ∷ before)
with_next expand p before = piece p ∷ before

abbrev pub with_front : Expansion → Front → List Part → (more : ℕ → List Part → List Part) → List Part
with_front expand (Some f) before more = more f.1 (with_next expand f.0 before)
with_front expand None before more = more 0 (stray ∷ before)

-- A text adds what stands at its front, then what stands at the front of the rest, and so on. The first bytes, so many, belong to the
-- part before.
unfoldable pub with_parts : (is_macro : Bool) → Expansion → ℕ → List ℕ → List Part → List Part
with_parts is_macro expand n [] before = before
with_parts is_macro expand (suc n) (b ∷ bs) before = with_parts is_macro expand n bs before
with_parts is_macro expand zero (b ∷ bs) before =
    with_front expand (front_after before is_macro b bs) before (λ n parts. with_parts is_macro expand n bs parts)

-- what the text of a macro adds, with so many levels left for uses in it
unfoldable pub with_macro_text : (levels : ℕ) → List ℕ → List Part → List Part
with_macro_text zero text before = nested_use ∷ before
with_macro_text (suc levels) text before = with_parts true (with_macro_text levels) 0 text before

-- a file without the byte order mark that may stand at its front
unfoldable pub without_byte_order_mark : List ℕ → List ℕ
without_byte_order_mark (a ∷ b ∷ c ∷ bytes) = cond (a == 0xef && b == 0xbb && c == 0xbf) bytes (a ∷ b ∷ c ∷ bytes)
without_byte_order_mark bytes = bytes

unfoldable pub with_file : List ℕ → List Part → List Part
with_file bytes before = end_of_file ∷ with_parts false (with_macro_text 64) 0 (without_byte_order_mark bytes) before

-- Files in order; macros carry over from file to file.
unfoldable pub with_files : List (List ℕ) → List Part → List Part
with_files [] before = before
with_files (f ∷ fs) before = with_files fs (with_file f before)

-- ---- tokens and limits

-- the tokens of some parts, in order
unfoldable pub tokens_read : List Part → List Token
tokens_read [] = []
tokens_read (piece (token t) ∷ before) = tokens_read before ++ t ∷ []
tokens_read (_ ∷ before) = tokens_read before

abbrev pub plus_length : ℕ → Option (List ℕ) → ℕ
plus_length n (Some text) = n + length text
plus_length n None = n

-- the bytes of macros' texts, counted at each use
unfoldable pub bytes_used : List Part → ℕ
bytes_used [] = 0
bytes_used (piece (use_of n) ∷ before) = plus_length (bytes_used before) (macro_after before n)
bytes_used (_ ∷ before) = bytes_used before

-- the most tokens of all files, and the most bytes of macros' texts, counted at each use
unfoldable pub most_tokens : ℕ
most_tokens = 4194304

unfoldable pub most_used : ℕ
most_used = 67108864

-- there are more tokens, or more bytes of macros' texts, than there may be
unfoldable pub passes_limit : List Part → Bool
passes_limit parts = nat_lt most_tokens (length (tokens_read parts)) || nat_lt most_used (bytes_used parts)

-- ---- what begins no token

abbrev pub is_zero : Token → Bool
is_zero (decimal text) = list_all (λ b. b == code "0" || b == code "_") text
is_zero _ = false

abbrev pub is_based : Token → Bool
is_based (based text) = true
is_based _ = false

-- The last token is a plain decimal of value 0, and nothing that the subset leaves out comes after it.
unfoldable pub is_zero_last : List Part → Bool
is_zero_last [] = false
is_zero_last (piece (token t) ∷ before) = is_zero t
is_zero_last (piece excluded ∷ before) = false
is_zero_last (_ ∷ before) = is_zero_last before

-- A byte begins no token, or a size before a based number is 0.
abbrev pub is_bad_token : Part → (before : List Part) → Bool
is_bad_token (piece (token t)) before = is_zero_last before && is_based t
is_bad_token stray before = true
is_bad_token _ before = false

-- such a part anywhere, up to where a limit is passed: there the reading ends
unfoldable pub has_bad_token : List Part → Bool
has_bad_token [] = false
has_bad_token (p ∷ before) = has_bad_token before || not (passes_limit before) && is_bad_token p before

-- ---- wrong directives

abbrev pub may_have_branch : List Conditional → Bool
may_have_branch [] = false
may_have_branch (c ∷ cs) = not c.has_else

abbrev pub is_none_open : List Conditional → Bool
is_none_open [] = true
is_none_open (c ∷ cs) = false

-- A directive that is written wrongly, a macro that is not defined, uses nested too deep, an `elsif or `else without a conditional or
-- after its `else, an `endif without a conditional, a file's end within one.
unfoldable pub is_bad_directive : Part → (before : List Part) → Bool
is_bad_directive (piece misdirected) before = true
is_bad_directive (piece (use_of n)) before = not (is_defined (macro_after before n))
is_bad_directive nested_use before = true
is_bad_directive (piece (else_if n)) before = not (may_have_branch (open_after before))
is_bad_directive (piece otherwise) before = not (may_have_branch (open_after before))
is_bad_directive (piece end_if) before = is_none_open (open_after before)
is_bad_directive end_of_file before = not (is_none_open (open_after before))
is_bad_directive _ before = false

unfoldable pub has_bad_directive : List Part → Bool
has_bad_directive [] = false
has_bad_directive (p ∷ before) = is_bad_directive p before || has_bad_directive before

-- ---- what the subset leaves out

unfoldable pub has_excluded : List Part → Bool
has_excluded [] = false
has_excluded (piece excluded ∷ before) = true
has_excluded (_ ∷ before) = has_excluded before

-- ---- nesting

-- what may be open in the text of tokens
pub data Opening : Type 0 where
  in_parentheses in_brackets in_braces in_block in_case in_if in_choice : Opening

-- what a token means for nesting
pub data Step : Type 0 where
  opens closes : Opening → Step
  -- ; and :
  ends_statement parts : Step
  stays : Step

abbrev pub step_of_mark : Mark → Step
step_of_mark left_parenthesis = opens in_parentheses
step_of_mark left_bracket = opens in_brackets
step_of_mark left_brace = opens in_braces
step_of_mark question = opens in_choice
step_of_mark right_parenthesis = closes in_parentheses
step_of_mark right_bracket = closes in_brackets
step_of_mark right_brace = closes in_braces
step_of_mark semicolon = ends_statement
step_of_mark colon = parts
step_of_mark _ = stays

unfoldable pub step_of_word : Name → Step
step_of_word w =
    cond (same_name w (codes "begin")) (opens in_block) (
    cond (same_name w (codes "case") || same_name w (codes "casez")) (opens in_case) (
    cond (same_name w (codes "if")) (opens in_if) (
    cond (same_name w (codes "end")) (closes in_block) (
    cond (same_name w (codes "endcase")) (closes in_case) stays))))

abbrev pub step_of : Token → Step
step_of (word w) = step_of_word w
step_of (mark m) = step_of_mark m
step_of _ = stays

abbrev pub opening_number : Opening → ℕ
opening_number in_parentheses = 0
opening_number in_brackets = 1
opening_number in_braces = 2
opening_number in_block = 3
opening_number in_case = 4
opening_number in_if = 5
opening_number in_choice = 6

abbrev pub is_same_opening : Opening → Opening → Bool
is_same_opening x y = opening_number x == opening_number y

abbrev pub or_all : List Opening → Option (List Opening) → List Opening
or_all all (Some rest) = rest
or_all all None = all

-- what is left behind the nearest one that is closed, where there is one
abbrev pub behind_nearest : Opening → List Opening → Option (List Opening)
behind_nearest x [] = None
behind_nearest x (y ∷ ys) = cond (is_same_opening x y) (Some ys) (behind_nearest x ys)

-- ; ends each if and each ? on top
abbrev pub without_statements : List Opening → List Opening
without_statements [] = []
without_statements (x ∷ xs) = cond (is_same_opening x in_if || is_same_opening x in_choice) (without_statements xs) (x ∷ xs)

-- : ends a ? on top
abbrev pub without_choice : List Opening → List Opening
without_choice [] = []
without_choice (x ∷ xs) = cond (is_same_opening x in_choice) xs (x ∷ xs)

unfoldable pub open_behind : Step → List Opening → List Opening
open_behind (opens x) xs = x ∷ xs
open_behind (closes x) xs = or_all xs (behind_nearest x xs)
open_behind ends_statement xs = without_statements xs
open_behind parts xs = without_choice xs
open_behind stays xs = xs

-- somewhere in the tokens more than 200 are open, where these are open before them
unfoldable pub is_too_deep : List Opening → List Token → Bool
is_too_deep xs [] = false
is_too_deep xs (t ∷ ts) = nat_lt 200 (length (open_behind (step_of t) xs)) || is_too_deep (open_behind (step_of t) xs) ts

-- ---- the answer

-- The first kind, in the order of the kinds, that some part of the files has; else the tokens.
unfoldable pub answer_of : List Part → Result (List Token) Refusal
answer_of all =
    cond (has_bad_token all) (Err bad_token) (
    cond (passes_limit all || has_bad_directive all) (Err bad_directive) (
    cond (has_excluded all) (Err unsupported) (
    cond (is_too_deep [] (tokens_read all)) (Err too_deep) (Ok (tokens_read all)))))

-- The tokens of all files in order, or why they are refused.
unfoldable pub tokens_in : List (List ℕ) → Result (List Token) Refusal
tokens_in files = cond (list_all is_utf8 files) (answer_of (with_files files [])) (Err not_text)
