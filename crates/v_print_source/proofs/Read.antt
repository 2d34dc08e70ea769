-- The tokens of files are as texts have them.
use Rattle.std.proofs.Common.{◌≡◌, ℕ, zero, suc, ◌+◌, ◌<◌, ◌≤◌, Bool, true, false, List, [], ◌∷◌, ◌++◌, length, Option, Some, None, Result, Ok, Err, refl, sym, ap, ◌∙◌, subst, arith, inl, inr}
use Rattle.std.specs.Prelude.{cond, not, ◌&&◌, ◌||◌, nat_lt}
use Rattle.std.specs.List.{list_all}
use Rattle.std.specs.Str.{is_utf8}
use Rattle.std.proofs.lemmas.Bool.{true≢false, or_parts, or_cases, or_from, or_left, or_right, and_right, ltb-true, ltb-false, lt-ltb}
use Rattle.verilog_text.specs.Token.{Token}
use Rattle.verilog_text.specs.Lexical.{Piece, token, excluded, use_of, Front, read_at, left_out_at}
use Rattle.verilog_text.specs.Text.{Refusal, not_text, bad_token, bad_directive, unsupported, too_deep, Part, piece, stray, macro_after, leaves_out, open_after, front_after, Expansion, with_expansion, with_next, with_front, with_parts, with_macro_text, without_byte_order_mark, with_file, with_files, tokens_read, plus_length, bytes_used, most_tokens, most_used, passes_limit, is_zero, is_based, is_zero_last, is_bad_token, has_bad_token, has_bad_directive, has_excluded, is_too_deep, answer_of, tokens_in}
use Rattle.v_print.specs.Whole.{begins_based, has_zero_size}
use Rattle.v_print_source.proofs.Lexed.{IsLexed, AreLexed}
use Rattle.v_print_source.proofs.Pieces.{IsFine, IsFineFront, either_way, read_fine, left_out_fine}

-- ---- parts

abbrev IsFinePart : Part → Type 0
IsFinePart (piece p) = IsFine p
IsFinePart _ = Unit {0}

abbrev AreFine : List Part → Type 0
AreFine [] = Unit {0}
AreFine (p ∷ ps) = IsFinePart p × AreFine ps

abbrev ExpandsFine : Expansion → Type 0
ExpandsFine expand = (text : List ℕ) (before : List Part) → AreFine before → AreFine (expand text before)

front_fine : (before : List Part) (m : Bool) (b : ℕ) (bs : List ℕ) → IsFineFront (front_after before m b bs)
unfolding front_after
front_fine before m b bs = either_way IsFineFront (leaves_out (open_after before)) (left_out_at b bs) (read_at m b bs) (λ _. left_out_fine b bs) (λ _. read_fine m b bs)

expansion_fine : (expand : Expansion) → ExpandsFine expand → (o : Option (List ℕ)) (before : List Part) → AreFine before → AreFine (with_expansion expand o before)
expansion_fine expand e None before h = h
expansion_fine expand e (Some text) before h = e text before h

next_fine : (expand : Expansion) → ExpandsFine expand → (p : Piece) (before : List Part) → IsFine p → AreFine before → AreFine (with_next expand p before)
next_fine expand e (use_of n) before f h = expansion_fine expand e (macro_after before n) (piece (use_of n) ∷ before) (tt, h)
next_fine expand e _ before f h = (f, h)

with_front_fine : (expand : Expansion) → ExpandsFine expand → (f : Front) (before : List Part) (more : ℕ → List Part → List Part) → IsFineFront f → AreFine before
    → ((n : ℕ) (ps : List Part) → AreFine ps → AreFine (more n ps)) → AreFine (with_front expand f before more)
with_front_fine expand e (Some f) before more fine h k = k f.1 (with_next expand f.0 before) (next_fine expand e f.0 before fine h)
with_front_fine expand e None before more fine h k = k 0 (stray ∷ before) (tt, h)

parts_fine : (m : Bool) (expand : Expansion) → ExpandsFine expand → (n : ℕ) (text : List ℕ) (before : List Part) → AreFine before → AreFine (with_parts m expand n text before)
unfolding with_parts
parts_fine m expand e n [] before h = h
parts_fine m expand e (suc n) (b ∷ bs) before h = parts_fine m expand e n bs before h
parts_fine m expand e zero (b ∷ bs) before h =
    with_front_fine expand e (front_after before m b bs) before (λ n ps. with_parts m expand n bs ps) (front_fine before m b bs) h (λ n ps g. parts_fine m expand e n bs ps g)

macro_fine : (levels : ℕ) → ExpandsFine (with_macro_text levels)
unfolding with_macro_text
macro_fine zero text before h = (tt, h)
macro_fine (suc levels) text before h = parts_fine true (with_macro_text levels) (macro_fine levels) 0 text before h

file_fine : (bytes : List ℕ) (before : List Part) → AreFine before → AreFine (with_file bytes before)
unfolding with_file
file_fine bytes before h = (tt, parts_fine false (with_macro_text 64) (macro_fine 64) 0 (without_byte_order_mark bytes) before h)

files_fine : (files : List (List ℕ)) (before : List Part) → AreFine before → AreFine (with_files files before)
unfolding with_files
files_fine [] before h = h
files_fine (f ∷ fs) before h = files_fine fs (with_file f before) (file_fine f before h)

-- ---- tokens

abbrev EachLexed : List Token → Type 0
EachLexed [] = Unit {0}
EachLexed (t ∷ ts) = IsLexed t × EachLexed ts

pushed_lexed : (ts : List Token) (t : Token) → EachLexed ts → IsLexed t → EachLexed (ts ++ t ∷ [])
pushed_lexed [] t h l = (l, tt)
pushed_lexed (u ∷ ts) t h l = (h.0, pushed_lexed ts t h.1 l)

tokens_lexed : (ps : List Part) → AreFine ps → EachLexed (tokens_read ps)
unfolding tokens_read
tokens_lexed [] h = tt
tokens_lexed (piece (token t) ∷ ps) h = pushed_lexed (tokens_read ps) t (tokens_lexed ps h.1) h.0
tokens_lexed (_ ∷ ps) h = tokens_lexed ps h.1

-- ---- limits are passed once

one_more : (ts : List Token) (t : Token) → length ts ≤ length (ts ++ t ∷ [])
one_more [] t = omega arith
one_more (u ∷ ts) t = let l = one_more ts t in omega (arith, l)

as_much : (n : ℕ) → n ≤ n
as_much n = omega arith

grows : (n : ℕ) (o : Option (List ℕ)) → n ≤ plus_length n o
grows n None = as_much n
grows n (Some text) = more n (length text)
  where
    more : (n m : ℕ) → n ≤ n + m
    more n m = omega arith

tokens_grow : (p : Part) (ps : List Part) → length (tokens_read ps) ≤ length (tokens_read (p ∷ ps))
unfolding tokens_read
tokens_grow (piece (token t)) ps = one_more (tokens_read ps) t
tokens_grow p ps = as_much (length (tokens_read ps))

bytes_grow : (p : Part) (ps : List Part) → bytes_used ps ≤ bytes_used (p ∷ ps)
unfolding bytes_used
bytes_grow (piece (use_of n)) ps = grows (bytes_used ps) (macro_after ps n)
bytes_grow p ps = as_much (bytes_used ps)

either_passes : (most few many most_bytes bytes more : ℕ) → few ≤ many → bytes ≤ more → (nat_lt most few || nat_lt most_bytes bytes) ≡ true → (nat_lt most many || nat_lt most_bytes more) ≡ true
either_passes most few many most_bytes bytes more t b e = elim (or_cases (nat_lt most few) (nat_lt most_bytes bytes) e) [
  | inl h ↦ or_left (nat_lt most many) (nat_lt most_bytes more) (lt-ltb most many (further most few many h t))
  | inr h ↦ or_right (nat_lt most many) (nat_lt most_bytes more) (lt-ltb most_bytes more (further most_bytes bytes more h b))
]
  where
    further : (m n q : ℕ) → nat_lt m n ≡ true → n ≤ q → m < q
    further m n q e l = let h = ltb-true m n e in omega (arith, h, l)

limit_stays : (p : Part) (ps : List Part) → passes_limit ps ≡ true → passes_limit (p ∷ ps) ≡ true
unfolding passes_limit
limit_stays p ps e =
    either_passes most_tokens (length (tokens_read ps)) (length (tokens_read (p ∷ ps))) most_used (bytes_used ps) (bytes_used (p ∷ ps)) (tokens_grow p ps) (bytes_grow p ps) e

within_before : (p : Part) (ps : List Part) → passes_limit (p ∷ ps) ≡ false → passes_limit ps ≡ false
within_before p ps h = by (passes_limit ps) refl
  where
    by : (t : Bool) → passes_limit ps ≡ t → t ≡ false
    by true e = absurd (true≢false (sym (limit_stays p ps e) ∙ h))
    by false e = refl

-- ---- sizes

abbrev is_last_zero : List Token → Bool
is_last_zero [] = false
is_last_zero (t ∷ []) = is_zero t
is_last_zero (t ∷ u ∷ ts) = is_last_zero (u ∷ ts)

last_of_pushed : (ts : List Token) (t : Token) → is_last_zero (ts ++ t ∷ []) ≡ is_zero t
last_of_pushed [] t = refl
last_of_pushed (u ∷ []) t = refl
last_of_pushed (u ∷ v ∷ ts) t = last_of_pushed (v ∷ ts) t

size_pushed : (ts : List Token) (t : Token) → has_zero_size ts ≡ false → (is_last_zero ts && is_based t) ≡ false → has_zero_size (ts ++ t ∷ []) ≡ false
size_pushed [] t h l = or_from (is_zero t && false) false (and_right (is_zero t) false refl) refl
size_pushed (u ∷ []) t h l = or_from (is_zero u && is_based t) (has_zero_size (t ∷ [])) l (or_from (is_zero t && false) false (and_right (is_zero t) false refl) refl)
size_pushed (u ∷ v ∷ ts) t h l =
    let parts = or_parts (is_zero u && is_based v) (has_zero_size (v ∷ ts)) h in
    or_from (is_zero u && is_based v) (has_zero_size (v ∷ ts ++ t ∷ [])) parts.0 (size_pushed (v ∷ ts) t parts.1 l)

last_read : (ps : List Part) → has_excluded ps ≡ false → is_zero_last ps ≡ is_last_zero (tokens_read ps)
unfolding is_zero_last tokens_read has_excluded
last_read [] h = refl
last_read (piece (token t) ∷ ps) h = sym (last_of_pushed (tokens_read ps) t)
last_read (piece excluded ∷ ps) h = absurd (true≢false h)
last_read (_ ∷ ps) h = last_read ps h

kept_bad : (limit bad : Bool) → limit ≡ false → (not limit && bad) ≡ false → bad ≡ false
kept_bad limit bad e h = ap (λ (t : Bool). not t && bad) (sym e) ∙ h

sizes_read : (ps : List Part) → has_bad_token ps ≡ false → passes_limit ps ≡ false → has_excluded ps ≡ false → has_zero_size (tokens_read ps) ≡ false
unfolding has_bad_token tokens_read has_excluded
sizes_read [] h l x = refl
sizes_read (piece (token t) ∷ ps) h l x =
    let within = within_before (piece (token t)) ps l in
    let parts = or_parts (has_bad_token ps) (not (passes_limit ps) && (is_zero_last ps && is_based t)) h in
    let apart = kept_bad (passes_limit ps) (is_zero_last ps && is_based t) within parts.1 in
    size_pushed (tokens_read ps) t (sizes_read ps parts.0 within x) (ap (λ (b : Bool). b && is_based t) (sym (last_read ps x)) ∙ apart)
sizes_read (piece excluded ∷ ps) h l x = absurd (true≢false x)
sizes_read (p ∷ ps) h l x = sizes_read ps (or_parts (has_bad_token ps) (not (passes_limit ps) && is_bad_token p ps) h).0 (within_before p ps l) x

-- ---- the answer

record IsClear (ps : List Part) (ts : List Token) : Type 0 where
  no_bad_token : has_bad_token ps ≡ false
  within : passes_limit ps ≡ false
  none_excluded : has_excluded ps ≡ false
  none_deep : is_too_deep [] (tokens_read ps) ≡ false
  are_read : tokens_read ps ≡ ts

-- the result where there is one
abbrev tokens_or : List Token → Result (List Token) Refusal → List Token
tokens_or other (Ok ts) = ts
tokens_or other (Err e) = other

abbrev is_ok : Result (List Token) Refusal → Bool
is_ok (Ok ts) = true
is_ok (Err e) = false

refused : (e : Refusal) (ts : List Token) → Err e ≡ Ok ts → ⊥
refused e ts h = true≢false (sym (ap is_ok h))

clear_by : (a b c d l : Bool) (all ts : List Token)
    → cond a (Err bad_token) (cond (l || b) (Err bad_directive) (cond c (Err unsupported) (cond d (Err too_deep) (Ok all)))) ≡ Ok ts
    → (a ≡ false) × (l ≡ false) × (c ≡ false) × (d ≡ false) × (all ≡ ts)
clear_by true b c d l all ts h = absurd (refused bad_token ts h)
clear_by false b c d true all ts h = absurd (refused bad_directive ts h)
clear_by false true c d false all ts h = absurd (refused bad_directive ts h)
clear_by false false true d false all ts h = absurd (refused unsupported ts h)
clear_by false false false true false all ts h = absurd (refused too_deep ts h)
clear_by false false false false false all ts h = (refl, refl, refl, refl, ap (tokens_or all) h)

answer_clear : (ps : List Part) (ts : List Token) → answer_of ps ≡ Ok ts → IsClear ps ts
unfolding answer_of
answer_clear ps ts h =
    let parts = clear_by (has_bad_token ps) (has_bad_directive ps) (has_excluded ps) (is_too_deep [] (tokens_read ps)) (passes_limit ps) (tokens_read ps) ts h in
    record { no_bad_token = parts.0; within = parts.1; none_excluded = parts.2; none_deep = parts.3; are_read = parts.4 }

text_clear : (files : List (List ℕ)) (ts : List Token) → tokens_in files ≡ Ok ts → IsClear (with_files files []) ts
unfolding tokens_in
text_clear files ts h = by (list_all is_utf8 files) h
  where
    by : (t : Bool) → cond t (answer_of (with_files files [])) (Err not_text) ≡ Ok ts → IsClear (with_files files []) ts
    by true g = answer_clear (with_files files []) ts g
    by false g = absurd (refused not_text ts g)

lexed_by : (ts : List Token) → EachLexed ts → has_zero_size ts ≡ false → AreLexed ts
lexed_by [] h z = tt
lexed_by (t ∷ ts) h z =
    let parts = or_parts (is_zero t && begins_based ts) (has_zero_size ts) z in
    (h.0, parts.0, lexed_by ts h.1 parts.1)

pub are_lexed : (files : List (List ℕ)) (ts : List Token) → tokens_in files ≡ Ok ts → AreLexed ts
are_lexed files ts h =
    let ps = with_files files [] in
    let clear = text_clear files ts h in
    subst AreLexed clear.are_read (lexed_by (tokens_read ps) (tokens_lexed ps (files_fine files [] tt)) (sizes_read ps clear.no_bad_token clear.within clear.none_excluded))

-- they keep the limits
pub read_bounds : (files : List (List ℕ)) (ts : List Token) → tokens_in files ≡ Ok ts → (length ts ≤ most_tokens) × (is_too_deep [] ts ≡ false)
unfolding passes_limit
read_bounds files ts h =
    let ps = with_files files [] in
    let clear = text_clear files ts h in
    let within = or_parts (nat_lt most_tokens (length (tokens_read ps))) (nat_lt most_used (bytes_used ps)) clear.within in
    (subst (λ us. length us ≤ most_tokens) clear.are_read (ltb-false most_tokens (length (tokens_read ps)) within.0), subst (λ us. is_too_deep [] us ≡ false) clear.are_read clear.none_deep)
