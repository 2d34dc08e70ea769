-- The walk over the files comes to the tokens that the definition gives.
use Rattle.std.proofs.Common.{◌≡◌, ℕ, zero, suc, ◌+◌, ◌<◌, ◌≤◌, Bool, true, false, List, [], ◌∷◌, ◌++◌, length, drop, Option, Some, None, Result, Ok, Err, refl, sym, ap, ◌∙◌, arith, inl, inr, lt-ltb, le-ltb}
use Rattle.std.proofs.lemmas.Bool.{true≢false, false≢true, cases_lt, ltb-true, leb-true, leb-false, or_cases, or_parts, or_left, or_right}
use Rattle.std.specs.Prelude.{cond, not, ◌&&◌, ◌||◌, nat_lt, nat_le}
use Rattle.std.specs.List.{list_all}
use Rattle.std.specs.Str.{is_utf8}
use Rattle.verilog_text.specs.Token.{Token}
use Rattle.verilog_text.specs.Lexical.{Piece, nothing, token, excluded, misdirected, define, undefine, if_defined, else_if, otherwise, end_if, use_of, Front}
use Rattle.verilog_text.specs.Text.{Refusal, not_text, bad_token, bad_directive, Part, piece, stray, nested_use, end_of_file, macro_after, is_defined, Conditional, with_branch, open_after, front_after, with_expansion, with_next, with_front, with_parts, with_macro_text, without_byte_order_mark, with_file, with_files, tokens_read, plus_length, bytes_used, most_tokens, most_used, passes_limit, is_based, is_zero_last, is_bad_token, has_bad_token, may_have_branch, is_none_open, is_bad_directive, has_bad_directive, has_excluded, answer_of, tokens_in, next_branch}
use Rattle.v_lex.specs.Walk.{Reading, first_reading, Outcome, then, with_bad_directive, with_conditionals, with_use, with_token, begun, continued_from, continued, ended_from, ended, with_text_of, with_piece, front_at, piece_then, text_from, macro_read, opened, closed_from, closed, file_read, files_read, judged, judged_from, walked}

-- ---- what the walk knows after some parts

abbrev pub reading_after : List Part → Reading
reading_after ps = record { macros = macro_after ps; conditionals = open_after ps; tokens = tokens_read ps; behind_zero = is_zero_last ps; used = bytes_used ps; has_bad_directive = has_bad_directive ps; has_left_out = has_excluded ps }

abbrev pub ending : (bad passed : Bool) → Option Refusal
ending bad passed = cond bad (Some bad_token) (cond passed (Some bad_directive) None)

-- why the reading ends within those parts, if it does
abbrev pub ended_by : List Part → Option Refusal
ended_by ps = ending (has_bad_token ps) (passes_limit ps)

abbrev pub unless_ended : Option Refusal → Reading → Outcome
unless_ended None r = Ok r
unless_ended (Some k) r = Err k

abbrev pub outcome_after : List Part → Outcome
outcome_after ps = unless_ended (ended_by ps) (reading_after ps)

abbrev pub Stays : (List Part → List Part) → Type 0
Stays more = (ps : List Part) (k : Refusal) → ended_by ps ≡ Some k → ended_by (more ps) ≡ Some k

abbrev pub Joins : (Reading → Outcome) → (List Part → List Part) → Type 0
Joins read more = (ps : List Part) → ended_by ps ≡ None → read (reading_after ps) ≡ outcome_after (more ps)

lifted_by : (read : Reading → Outcome) (more : List Part → List Part) → Joins read more → Stays more → (ps : List Part) (o : Option Refusal) → ended_by ps ≡ o
    → then (unless_ended o (reading_after ps)) read ≡ outcome_after (more ps)
lifted_by read more joins stays ps None e = joins ps e
lifted_by read more joins stays ps (Some k) e = sym (ap (λ (o : Option Refusal). unless_ended o (reading_after (more ps))) (stays ps k e))

lifted : (read : Reading → Outcome) (more : List Part → List Part) → Joins read more → Stays more → (ps : List Part) → then (outcome_after ps) read ≡ outcome_after (more ps)
lifted read more joins stays ps = lifted_by read more joins stays ps (ended_by ps) refl

-- ---- truth values

not_ended : (b l : Bool) → ending b l ≡ None → (b ≡ false) × (l ≡ false)
not_ended true l e = absurd cc
not_ended false true e = absurd cc
not_ended false false e = (refl, refl)

calm : (b l x m : Bool) → b ≡ false → x ≡ false → m ≡ false → ending (b || not l && x) m ≡ None
calm true l x m hb hx hm = absurd (true≢false hb)
calm false l true m hb hx hm = absurd (true≢false hx)
calm false l false true hb hx hm = absurd (true≢false hm)
calm false true false false hb hx hm = refl
calm false false false false hb hx hm = refl

too_much : (b l x m : Bool) → b ≡ false → x ≡ false → m ≡ true → ending (b || not l && x) m ≡ Some bad_directive
too_much true l x m hb hx hm = absurd (true≢false hb)
too_much false l true m hb hx hm = absurd (true≢false hx)
too_much false l false false hb hx hm = absurd (false≢true hm)
too_much false true false true hb hx hm = refl
too_much false false false true hb hx hm = refl

stay : (b l x m : Bool) (k : Refusal) → (l ≡ true → m ≡ true) → ending b l ≡ Some k → ending (b || not l && x) m ≡ Some k
stay true l x m k h e = e
stay false true x m k h e = ap (λ (t : Bool). cond t (Some bad_directive) None) (h refl) ∙ e
stay false false x m k h e = absurd cc

by_token : (b l x m n : Bool) (r : Reading) → b ≡ false → l ≡ false → n ≡ not m
    → cond x (Err bad_token) (cond m (Ok r) (Err bad_directive)) ≡ unless_ended (ending (b || not l && x) n) r
by_token true l x m n r hb hl e = absurd (true≢false hb)
by_token false true x m n r hb hl e = absurd (true≢false hl)
by_token false false true m n r hb hl e = refl
by_token false false false true true r hb hl e = absurd (true≢false e)
by_token false false false true false r hb hl e = refl
by_token false false false false true r hb hl e = refl
by_token false false false false false r hb hl e = absurd (false≢true e)

-- ---- limits

one_more : (ts : List Token) (t : Token) → length (ts ++ t ∷ []) ≡ suc (length ts)
one_more [] t = refl
one_more (x ∷ ts) t = ap (λ (n : ℕ). suc n) (one_more ts t)

up_to : (n most : ℕ) → nat_lt most (suc n) ≡ not (nat_lt n most)
up_to n most =
    elim (cases_lt n most) [
      | inl h ↦ le-ltb most (suc n) (omega (arith, h)) ∙ sym (ap not (lt-ltb n most h))
      | inr h ↦ lt-ltb most (suc n) (omega (arith, h)) ∙ sym (ap not (le-ltb n most h))
    ]

longer : (n m : ℕ) → m ≡ suc n → n ≤ m
longer n m e = omega (arith, e)

as_much : (n : ℕ) → n ≤ n
as_much n = omega arith

with_more : (n m : ℕ) → n ≤ n + m
with_more n m = omega arith

grows : (n : ℕ) (o : Option (List ℕ)) → n ≤ plus_length n o
grows n None = as_much n
grows n (Some text) = with_more n (length text)

tokens_grow : (p : Part) (ps : List Part) → length (tokens_read ps) ≤ length (tokens_read (p ∷ ps))
unfolding tokens_read
tokens_grow (piece (token t)) ps = longer (length (tokens_read ps)) _ (one_more (tokens_read ps) t)
tokens_grow p ps = as_much (length (tokens_read ps))

bytes_grow : (p : Part) (ps : List Part) → bytes_used ps ≤ bytes_used (p ∷ ps)
unfolding bytes_used
bytes_grow (piece (use_of n)) ps = grows (bytes_used ps) (macro_after ps n)
bytes_grow p ps = as_much (bytes_used ps)

either_passes : (most few many most_bytes bytes more : ℕ) → few ≤ many → bytes ≤ more → (nat_lt most few || nat_lt most_bytes bytes) ≡ true → (nat_lt most many || nat_lt most_bytes more) ≡ true
either_passes most few many most_bytes bytes more t b e =
    elim (or_cases (nat_lt most few) (nat_lt most_bytes bytes) e) [
      | inl h ↦ or_left (nat_lt most many) (nat_lt most_bytes more) (lt-ltb most many (further most few many h t))
      | inr h ↦ or_right (nat_lt most many) (nat_lt most_bytes more) (lt-ltb most_bytes more (further most_bytes bytes more h b))
    ]
  where
    further : (m n q : ℕ) → nat_lt m n ≡ true → n ≤ q → m < q
    further m n q e l = let h = ltb-true m n e in omega (arith, h, l)

limit_stays : (p : Part) (ps : List Part) → passes_limit ps ≡ true → passes_limit (p ∷ ps) ≡ true
unfolding passes_limit
limit_stays p ps e =
    either_passes most_tokens (length (tokens_read ps)) (length (tokens_read (p ∷ ps))) most_used (bytes_used ps) (bytes_used (p ∷ ps)) (tokens_grow p ps) (bytes_grow p ps) e

-- ---- a part more

pub part_stays : (p : Part) → Stays (λ ps. p ∷ ps)
unfolding has_bad_token
part_stays p ps k e = stay (has_bad_token ps) (passes_limit ps) (is_bad_token p ps) (passes_limit (p ∷ ps)) k (limit_stays p ps) e

still_calm : (p : Part) (ps : List Part) → ended_by ps ≡ None → is_bad_token p ps ≡ false → passes_limit (p ∷ ps) ≡ false → ended_by (p ∷ ps) ≡ None
unfolding has_bad_token
still_calm p ps e x m = calm (has_bad_token ps) (passes_limit ps) (is_bad_token p ps) (passes_limit (p ∷ ps)) (not_ended (has_bad_token ps) (passes_limit ps) e).0 x m

-- a part that gives no token and reads no macro's text
quiet : (p : Part) (ps : List Part) (r : Reading) → ended_by ps ≡ None → is_bad_token p ps ≡ false → passes_limit (p ∷ ps) ≡ passes_limit ps → r ≡ reading_after (p ∷ ps)
    → Ok r ≡ outcome_after (p ∷ ps)
quiet p ps r e x same is =
    ap (λ (s : Reading). Ok s) is
    ∙ sym (ap (λ (o : Option Refusal). unless_ended o (reading_after (p ∷ ps))) (still_calm p ps e x (same ∙ (not_ended (has_bad_token ps) (passes_limit ps) e).1)))

pub stray_ends : (ps : List Part) → ended_by ps ≡ None → ended_by (stray ∷ ps) ≡ Some bad_token
unfolding has_bad_token
stray_ends ps e =
    let calm_so = not_ended (has_bad_token ps) (passes_limit ps) e in
    ends (has_bad_token ps) (passes_limit ps) (passes_limit (stray ∷ ps)) calm_so.0 calm_so.1
  where
    ends : (b l m : Bool) → b ≡ false → l ≡ false → ending (b || not l && true) m ≡ Some bad_token
    ends true l m hb hl = absurd (true≢false hb)
    ends false true m hb hl = absurd (true≢false hl)
    ends false false m hb hl = refl

-- ---- conditionals

abbrev flagged : Bool → Reading → Reading
flagged t r = record { macros = r.macros; conditionals = r.conditionals; tokens = r.tokens; behind_zero = r.behind_zero; used = r.used; has_bad_directive = t || r.has_bad_directive; has_left_out = r.has_left_out }

branch_with : (t : Bool) (c next : Conditional) (cs : List Conditional) (r : Reading)
    → cond t (with_bad_directive (with_conditionals (c ∷ cs) r)) (with_conditionals (next ∷ cs) r)
    ≡ flagged (not (not t)) (with_conditionals (cond t (c ∷ cs) (next ∷ cs)) r)
branch_with true c next cs r = refl
branch_with false c next cs r = refl

branch : (is_else holds : Bool) (cs : List Conditional) (r : Reading)
    → continued_from cs is_else holds (with_conditionals cs r) ≡ flagged (not (may_have_branch cs)) (with_conditionals (with_branch is_else holds cs) r)
branch is_else holds [] r = refl
branch is_else holds (c ∷ cs) r = branch_with c.has_else c (record { branch = next_branch c.branch holds; has_else = is_else }) cs r

end_of_one : (cs : List Conditional) (r : Reading) → ended_from cs (with_conditionals cs r) ≡ flagged (is_none_open cs) (with_conditionals (drop 1 cs) r)
end_of_one [] r = refl
end_of_one (c ∷ cs) r = refl

end_of_all : (cs : List Conditional) (r : Reading) → opened (closed_from cs r) ≡ flagged (not (is_none_open cs)) (with_conditionals [] r)
unfolding opened
end_of_all [] r = refl
end_of_all (c ∷ cs) r = refl

-- ---- a token

token_joins : (t : Token) → Joins (with_token t) (λ ps. piece (token t) ∷ ps)
unfolding with_token has_bad_token passes_limit tokens_read bytes_used macro_after open_after is_zero_last is_bad_directive has_bad_directive has_excluded
token_joins t ps e =
    let so = not_ended (has_bad_token ps) (passes_limit ps) e in
    let used = or_parts (nat_lt most_tokens (length (tokens_read ps))) (nat_lt most_used (bytes_used ps)) so.1 in
    by_token (has_bad_token ps) (passes_limit ps) (is_zero_last ps && is_based t) (nat_lt (length (tokens_read ps)) most_tokens) (passes_limit (piece (token t) ∷ ps))
    (reading_after (piece (token t) ∷ ps)) so.0 so.1
    (ap (λ (x : Bool). nat_lt most_tokens (length (tokens_read ps ++ t ∷ [])) || x) used.1
    ∙ or_false (nat_lt most_tokens (length (tokens_read ps ++ t ∷ [])))
    ∙ ap (λ (n : ℕ). nat_lt most_tokens n) (one_more (tokens_read ps) t)
    ∙ up_to (length (tokens_read ps)) most_tokens)
  where
    or_false : (x : Bool) → (x || false) ≡ x
    or_false true = refl
    or_false false = refl

-- ---- the use of a macro

-- the reading after a use of a macro, by the macro's text
abbrev pub after_use : Option (List ℕ) → Reading → Reading
after_use o r = record { macros = r.macros; conditionals = r.conditionals; tokens = r.tokens; behind_zero = r.behind_zero; used = plus_length r.used o; has_bad_directive = not (is_defined o) || r.has_bad_directive; has_left_out = r.has_left_out }

pub use_is : (n : List ℕ) (ps : List Part) (o : Option (List ℕ)) → macro_after ps n ≡ o → after_use o (reading_after ps) ≡ reading_after (piece (use_of n) ∷ ps)
unfolding tokens_read bytes_used macro_after open_after is_zero_last is_bad_directive has_bad_directive has_excluded
use_is n ps o is = ap (λ (x : Option (List ℕ)). after_use x (reading_after ps)) (sym is)

use_passes : (n : List ℕ) (ps : List Part) (o : Option (List ℕ)) → macro_after ps n ≡ o
    → passes_limit (piece (use_of n) ∷ ps) ≡ (nat_lt most_tokens (length (tokens_read ps)) || nat_lt most_used (plus_length (bytes_used ps) o))
unfolding passes_limit tokens_read bytes_used
use_passes n ps o is = ap (λ (x : Option (List ℕ)). nat_lt most_tokens (length (tokens_read ps)) || nat_lt most_used (plus_length (bytes_used ps) x)) is

within_tokens : (ps : List Part) → ended_by ps ≡ None → nat_lt most_tokens (length (tokens_read ps)) ≡ false
unfolding passes_limit
within_tokens ps e = (or_parts (nat_lt most_tokens (length (tokens_read ps))) (nat_lt most_used (bytes_used ps)) (not_ended (has_bad_token ps) (passes_limit ps) e).1).0

text_used : (read : List ℕ → Reading → Outcome) (expand : List ℕ → List Part → List Part) → ((text : List ℕ) → Joins (read text) (expand text)) → ((text : List ℕ) → Stays (expand text))
    → (n : List ℕ) (ps : List Part) (text : List ℕ) (t : Bool) → ended_by ps ≡ None → macro_after ps n ≡ Some text → nat_le (bytes_used ps + length text) most_used ≡ t
    → cond t (read text (with_use (length text) (reading_after ps))) (Err bad_directive) ≡ outcome_after (expand text (piece (use_of n) ∷ ps))
unfolding has_bad_token
text_used read expand joins stays n ps text true e is fits =
    let passes : passes_limit (piece (use_of n) ∷ ps) ≡ false = use_passes n ps (Some text) is
    ∙ ap (λ (x : Bool). x || nat_lt most_used (bytes_used ps + length text)) (within_tokens ps e)
    ∙ le-ltb most_used (bytes_used ps + length text) (leb-true (bytes_used ps + length text) most_used fits) in
    ap (read text) (use_is n ps (Some text) is) ∙ joins text (piece (use_of n) ∷ ps) (still_calm (piece (use_of n)) ps e refl passes)
text_used read expand joins stays n ps text false e is fits =
    let passes : passes_limit (piece (use_of n) ∷ ps) ≡ true = use_passes n ps (Some text) is
    ∙ ap (λ (x : Bool). x || nat_lt most_used (bytes_used ps + length text)) (within_tokens ps e)
    ∙ lt-ltb most_used (bytes_used ps + length text) (leb-false (bytes_used ps + length text) most_used fits) in
    let over : ended_by (piece (use_of n) ∷ ps) ≡ Some bad_directive =
    too_much (has_bad_token ps) (passes_limit ps) false (passes_limit (piece (use_of n) ∷ ps)) (not_ended (has_bad_token ps) (passes_limit ps) e).0 refl passes in
    sym (ap (λ (o : Option Refusal). unless_ended o (reading_after (expand text (piece (use_of n) ∷ ps)))) (stays text (piece (use_of n) ∷ ps) bad_directive over))

use_joins : (read : List ℕ → Reading → Outcome) (expand : List ℕ → List Part → List Part) → ((text : List ℕ) → Joins (read text) (expand text)) → ((text : List ℕ) → Stays (expand text))
    → (n : List ℕ) (ps : List Part) (o : Option (List ℕ)) → ended_by ps ≡ None → macro_after ps n ≡ o → with_text_of read o (reading_after ps) ≡ outcome_after (with_expansion expand o (piece (use_of n) ∷ ps))
unfolding passes_limit
use_joins read expand joins stays n ps None e is = quiet (piece (use_of n)) ps (with_bad_directive (reading_after ps)) e refl (use_passes n ps None is) (use_is n ps None is)
use_joins read expand joins stays n ps (Some text) e is = text_used read expand joins stays n ps text (nat_le (bytes_used ps + length text) most_used) e is refl

-- ---- a piece

pub piece_joins : (read : List ℕ → Reading → Outcome) (expand : List ℕ → List Part → List Part) → ((text : List ℕ) → Joins (read text) (expand text)) → ((text : List ℕ) → Stays (expand text))
    → (p : Piece) → Joins (with_piece read p) (with_next expand p)
unfolding with_piece begun continued ended passes_limit tokens_read bytes_used macro_after open_after is_zero_last is_bad_directive has_bad_directive has_excluded
piece_joins read expand joins stays nothing ps e = quiet (piece nothing) ps _ e refl refl refl
piece_joins read expand joins stays (token t) ps e = token_joins t ps e
piece_joins read expand joins stays excluded ps e = quiet (piece excluded) ps _ e refl refl refl
piece_joins read expand joins stays misdirected ps e = quiet (piece misdirected) ps _ e refl refl refl
piece_joins read expand joins stays (define n text) ps e = quiet (piece (define n text)) ps _ e refl refl refl
piece_joins read expand joins stays (undefine n) ps e = quiet (piece (undefine n)) ps _ e refl refl refl
piece_joins read expand joins stays (if_defined true n) ps e = quiet (piece (if_defined true n)) ps _ e refl refl refl
piece_joins read expand joins stays (if_defined false n) ps e = quiet (piece (if_defined false n)) ps _ e refl refl refl
piece_joins read expand joins stays (else_if n) ps e = quiet (piece (else_if n)) ps _ e refl refl (branch false (is_defined (macro_after ps n)) (open_after ps) (reading_after ps))
piece_joins read expand joins stays otherwise ps e = quiet (piece otherwise) ps _ e refl refl (branch true true (open_after ps) (reading_after ps))
piece_joins read expand joins stays end_if ps e = quiet (piece end_if) ps _ e refl refl (end_of_one (open_after ps) (reading_after ps))
piece_joins read expand joins stays (use_of n) ps e = use_joins read expand joins stays n ps (macro_after ps n) e refl

use_stays : (expand : List ℕ → List Part → List Part) → ((text : List ℕ) → Stays (expand text)) → (n : List ℕ) (o : Option (List ℕ)) → Stays (λ ps. with_expansion expand o (piece (use_of n) ∷ ps))
use_stays expand stays n None ps k e = part_stays (piece (use_of n)) ps k e
use_stays expand stays n (Some text) ps k e = stays text (piece (use_of n) ∷ ps) k (part_stays (piece (use_of n)) ps k e)

pub piece_stays : (expand : List ℕ → List Part → List Part) → ((text : List ℕ) → Stays (expand text)) → (p : Piece) → Stays (with_next expand p)
piece_stays expand stays (use_of n) ps k e = use_stays expand stays n (macro_after ps n) ps k e
piece_stays expand stays p ps k e = part_stays (piece p) ps k e

-- ---- texts

front_stays : (u : Bool) (expand : List ℕ → List Part → List Part) → ((text : List ℕ) → Stays (expand text)) → (bs : List ℕ) → ((m : ℕ) → Stays (with_parts u expand m bs))
    → (f : Front) → Stays (λ ps. with_front expand f ps (λ m qs. with_parts u expand m bs qs))
front_stays u expand stays bs more (Some f) ps k e = more f.1 (with_next expand f.0 ps) k (piece_stays expand stays f.0 ps k e)
front_stays u expand stays bs more None ps k e = more 0 (stray ∷ ps) k (part_stays stray ps k e)

pub parts_stay : (u : Bool) (expand : List ℕ → List Part → List Part) → ((text : List ℕ) → Stays (expand text)) → (n : ℕ) (text : List ℕ) → Stays (with_parts u expand n text)
unfolding with_parts
parts_stay u expand stays n [] ps k e = e
parts_stay u expand stays (suc n) (b ∷ bs) ps k e = parts_stay u expand stays n bs ps k e
parts_stay u expand stays zero (b ∷ bs) ps k e = front_stays u expand stays bs (λ m. parts_stay u expand stays m bs) (front_after ps u b bs) ps k e

front_joins : (u : Bool) (read : List ℕ → Reading → Outcome) (expand : List ℕ → List Part → List Part) → ((text : List ℕ) → Joins (read text) (expand text)) → ((text : List ℕ) → Stays (expand text))
    → (bs : List ℕ) → ((m : ℕ) → Joins (text_from u read m bs) (with_parts u expand m bs)) → (f : Front) (ps : List Part) → ended_by ps ≡ None
    → piece_then read f (reading_after ps) (λ m s. text_from u read m bs s) ≡ outcome_after (with_front expand f ps (λ m qs. with_parts u expand m bs qs))
front_joins u read expand joins stays bs more (Some f) ps e =
    ap (λ (o : Outcome). then o (text_from u read f.1 bs)) (piece_joins read expand joins stays f.0 ps e)
    ∙ lifted (text_from u read f.1 bs) (with_parts u expand f.1 bs) (more f.1) (parts_stay u expand stays f.1 bs) (with_next expand f.0 ps)
front_joins u read expand joins stays bs more None ps e =
    sym (ap (λ (o : Option Refusal). unless_ended o (reading_after (with_parts u expand 0 bs (stray ∷ ps)))) (parts_stay u expand stays 0 bs (stray ∷ ps) bad_token (stray_ends ps e)))

pub text_joins : (u : Bool) (read : List ℕ → Reading → Outcome) (expand : List ℕ → List Part → List Part) → ((text : List ℕ) → Joins (read text) (expand text)) → ((text : List ℕ) → Stays (expand text))
    → (n : ℕ) (text : List ℕ) → Joins (text_from u read n text) (with_parts u expand n text)
unfolding text_from with_parts front_at front_after
text_joins u read expand joins stays n [] ps e = sym (ap (λ (o : Option Refusal). unless_ended o (reading_after ps)) e)
text_joins u read expand joins stays (suc n) (b ∷ bs) ps e = text_joins u read expand joins stays n bs ps e
text_joins u read expand joins stays zero (b ∷ bs) ps e = front_joins u read expand joins stays bs (λ m. text_joins u read expand joins stays m bs) (front_after ps u b bs) ps e

pub macro_stays : (levels : ℕ) (text : List ℕ) → Stays (with_macro_text levels text)
unfolding with_macro_text
macro_stays zero text ps k e = part_stays nested_use ps k e
macro_stays (suc levels) text ps k e = parts_stay true (with_macro_text levels) (macro_stays levels) 0 text ps k e

pub macro_joins : (levels : ℕ) (text : List ℕ) → Joins (macro_read levels text) (with_macro_text levels text)
unfolding macro_read with_macro_text passes_limit tokens_read bytes_used macro_after open_after is_zero_last is_bad_directive has_bad_directive has_excluded
macro_joins zero text ps e = quiet nested_use ps (with_bad_directive (reading_after ps)) e refl refl refl
macro_joins (suc levels) text ps e = text_joins true (macro_read levels) (with_macro_text levels) (macro_joins levels) (macro_stays levels) 0 text ps e

-- ---- files

file_stays : (f : List ℕ) → Stays (with_file f)
unfolding with_file
file_stays f ps k e =
    part_stays end_of_file (with_parts false (with_macro_text 64) 0 (without_byte_order_mark f) ps) k
    (parts_stay false (with_macro_text 64) (macro_stays 64) 0 (without_byte_order_mark f) ps k e)

pub files_stay : (fs : List (List ℕ)) → Stays (with_files fs)
unfolding with_files
files_stay [] ps k e = e
files_stay (f ∷ fs) ps k e = files_stay fs (with_file f ps) k (file_stays f ps k e)

abbrev refused_by : Option Refusal → Result (List Token) Refusal
refused_by (Some k) = Err k
refused_by None = Err not_text

answered_by : (b l x : Bool) (y : Result (List Token) Refusal) (k : Refusal) → ending b l ≡ Some k → cond b (Err bad_token) (cond (l || x) (Err bad_directive) y) ≡ Err k
answered_by true l x y k e = ap refused_by e
answered_by false true x y k e = ap refused_by e
answered_by false false x y k e = absurd cc

pub ended_answer : (ps : List Part) (k : Refusal) → ended_by ps ≡ Some k → answer_of ps ≡ Err k
unfolding answer_of
ended_answer ps k e = answered_by (has_bad_token ps) (passes_limit ps) (has_bad_directive ps) _ k e

calm_answer : (b l x : Bool) (y : Result (List Token) Refusal) → b ≡ false → l ≡ false → cond x (Err bad_directive) y ≡ cond b (Err bad_token) (cond (l || x) (Err bad_directive) y)
calm_answer true l x y hb hl = absurd (true≢false hb)
calm_answer false true x y hb hl = absurd (true≢false hl)
calm_answer false false x y hb hl = refl

judged_after : (ps : List Part) → ended_by ps ≡ None → judged (reading_after ps) ≡ answer_of ps
unfolding judged answer_of
judged_after ps e =
    let so = not_ended (has_bad_token ps) (passes_limit ps) e in
    calm_answer (has_bad_token ps) (passes_limit ps) (has_bad_directive ps) _ so.0 so.1

judged_opened : (r : Reading) → judged r ≡ judged (opened r)
unfolding judged opened
judged_opened r = refl

pub closed_after : (ps : List Part) → opened (closed (reading_after ps)) ≡ reading_after (end_of_file ∷ ps)
unfolding closed tokens_read bytes_used macro_after open_after is_zero_last is_bad_directive has_bad_directive has_excluded
closed_after ps = end_of_all (open_after ps) (reading_after ps)

end_calm : (ps : List Part) → ended_by ps ≡ None → ended_by (end_of_file ∷ ps) ≡ None
unfolding passes_limit tokens_read bytes_used
end_calm ps e = still_calm end_of_file ps e refl (not_ended (has_bad_token ps) (passes_limit ps) e).1

-- the parts of a file without its end
abbrev inside : List ℕ → List Part → List Part
inside f ps = with_parts false (with_macro_text 64) 0 (without_byte_order_mark f) ps

next_files : (fs : List (List ℕ)) (qs : List Part) (o : Option Refusal) → ended_by qs ≡ o
    → ((r : Reading) (ps : List Part) → opened r ≡ reading_after ps → ended_by ps ≡ None → judged_from (files_read fs r) ≡ answer_of (with_files fs ps))
    → judged_from (then (then (unless_ended o (reading_after qs)) (λ s. Ok (closed s))) (files_read fs)) ≡ answer_of (with_files fs (end_of_file ∷ qs))
next_files fs qs None e more = more (closed (reading_after qs)) (end_of_file ∷ qs) (closed_after qs) (end_calm qs e)
next_files fs qs (Some k) e more = sym (ended_answer (with_files fs (end_of_file ∷ qs)) k (files_stay fs (end_of_file ∷ qs) k (part_stays end_of_file qs k e)))

files_join : (fs : List (List ℕ)) (r : Reading) (ps : List Part) → opened r ≡ reading_after ps → ended_by ps ≡ None → judged_from (files_read fs r) ≡ answer_of (with_files fs ps)
unfolding files_read file_read with_files with_file
files_join [] r ps is e = judged_opened r ∙ ap judged is ∙ judged_after ps e
files_join (f ∷ fs) r ps is e =
    ap (λ (q : Reading). judged_from (then (then (text_from false (macro_read 64) 0 (without_byte_order_mark f) q) (λ s. Ok (closed s))) (files_read fs))) is
    ∙ ap (λ (o : Outcome). judged_from (then (then o (λ s. Ok (closed s))) (files_read fs)))
    (text_joins false (macro_read 64) (with_macro_text 64) (macro_joins 64) (macro_stays 64) 0 (without_byte_order_mark f) ps e)
    ∙ next_files fs (inside f ps) (ended_by (inside f ps)) refl (files_join fs)

pub nothing_ended : ended_by [] ≡ None
unfolding has_bad_token passes_limit tokens_read bytes_used most_tokens most_used
nothing_ended = refl

pub nothing_read : opened first_reading ≡ reading_after []
unfolding opened tokens_read bytes_used macro_after open_after is_zero_last has_bad_directive has_excluded
nothing_read = refl

-- The walk gives the definition's answer on every list of files.
pub walk_gives : (files : List (List ℕ)) → walked files ≡ tokens_in files
unfolding walked tokens_in
walk_gives files = ap (λ (a : Result (List Token) Refusal). cond (list_all is_utf8 files) a (Err not_text)) (files_join files first_reading [] nothing_read nothing_ended)
