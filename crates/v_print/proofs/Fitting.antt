-- Operators and marks are read as themselves, in front of what may follow them.
use Rattle.std.proofs.Common.{◌≡◌, ℕ, suc, Bool, true, false, List, [], ◌∷◌, ◌++◌, length, drop, Some, refl, sym, ap, ◌∙◌, subst}
use Rattle.std.specs.Prelude.{cond, not, ◌&&◌, ◌==◌, option_map}
use Rattle.std.specs.List.{list_all}
use Rattle.std.proofs.lemmas.Bool.{true≢false, and_parts, and_left, eqb-true, not-true}
use Rattle.verilog_text.specs.Token.{Mark, left_parenthesis, right_parenthesis, left_bracket, right_bracket, left_brace, right_brace, comma, semicolon, colon, dot, hash, at, question, equals, plus_colon, minus_colon, plus, minus, star, double_star, slash, percent, exclamation, tilde, ampersand, tilde_ampersand, bar, tilde_bar, caret, tilde_caret, caret_tilde, double_ampersand, double_bar, less, less_equals, greater, greater_equals, double_less, double_greater, triple_less, triple_greater, double_equals, exclamation_equals, triple_equals, exclamation_double_equals, spelling_of, marks, mark}
use Rattle.verilog_text.specs.Lexical.{nothing, token, if_closed, closing_length, line_length, is_prefix, or_longer, longest_of, mark_front, mark_at, slash_at, is_star_alone, bracket_at, read_at}
use Rattle.v_print.specs.declared.last.Last.{Last}
use Rattle.v_print.specs.declared.last.Last.TheVariants.{Opened, Prefix, Operator}
use Rattle.v_print.specs.Reads.{may_follow, may_go_on, last_of_mark}
use Rattle.v_print.proofs.Parts.{IsToken}

-- ---- a byte that no longer mark goes on with is as good as a blank

differs : (p : ℕ → Bool) (b c : ℕ) → p b ≡ true → p c ≡ false → (b == c) ≡ false
differs p b c h g = by (b == c) refl
  where
    by : (t : Bool) → (b == c) ≡ t → t ≡ false
    by true e = absurd (true≢false (sym (subst (λ k. p k ≡ true) (eqb-true b c e) h) ∙ g))
    by false e = refl

-- no byte of a text passes the test
abbrev are_others : (ℕ → Bool) → List ℕ → Bool
are_others p ks = list_all (λ k. not (p k)) ks

like_blank_at : (p : ℕ → Bool) (c : ℕ) (cs ks : List ℕ) → p c ≡ true → p 32 ≡ true → are_others p ks ≡ true → is_prefix ks (c ∷ cs) ≡ is_prefix ks (32 ∷ [])
like_blank_at p c cs [] h g others = refl
like_blank_at p c cs (k ∷ ks) h g others =
    let parts = and_parts (not (p k)) (are_others p ks) others in
    let other = not-true (p k) parts.0 in
    and_left (c == k) (is_prefix ks cs) (differs p c k h other) ∙ sym (and_left (32 == k) (is_prefix ks []) (differs p 32 k g other))

like_blank_behind : (p : ℕ → Bool) (c : ℕ) (cs xs ks : List ℕ) → p c ≡ true → p 32 ≡ true → are_others p ks ≡ true → is_prefix ks (xs ++ c ∷ cs) ≡ is_prefix ks (xs ++ 32 ∷ [])
like_blank_behind p c cs [] ks h g others = like_blank_at p c cs ks h g others
like_blank_behind p c cs (x ∷ xs) [] h g others = refl
like_blank_behind p c cs (x ∷ xs) (k ∷ ks) h g others =
    ap (λ (t : Bool). x == k && t) (like_blank_behind p c cs xs ks h g (and_parts (not (p k)) (are_others p ks) others).1)

-- the same where the first byte of the mark is not asked
like_blank : (p : ℕ → Bool) (c : ℕ) (cs : List ℕ) (b : ℕ) (xs ks : List ℕ) → p c ≡ true → p 32 ≡ true → are_others p (drop 1 ks) ≡ true
    → is_prefix ks (b ∷ xs ++ c ∷ cs) ≡ is_prefix ks (b ∷ xs ++ 32 ∷ [])
like_blank p c cs b xs [] h g others = refl
like_blank p c cs b xs (k ∷ ks) h g others = ap (λ (t : Bool). b == k && t) (like_blank_behind p c cs xs ks h g others)

longest_alike : (ms : List Mark) (text other : List ℕ) → ((m : Mark) → is_prefix (spelling_of m) text ≡ is_prefix (spelling_of m) other) → longest_of ms text ≡ longest_of ms other
unfolding longest_of
longest_alike [] text other same = refl
longest_alike (m ∷ ms) text other same = λ i. cond (same m i) (Some (or_longer m (longest_alike ms text other same i))) (longest_alike ms text other same i)

-- what may follow an operator is no later byte of a mark
abbrev AreOthers : Last → Type 0
AreOthers kind = (m : Mark) → are_others (may_follow kind) (drop 1 (spelling_of m)) ≡ true

behind_prefix : AreOthers Prefix
behind_prefix left_parenthesis = refl
behind_prefix _ = refl

behind_operator : AreOthers Operator
behind_operator left_parenthesis = refl
behind_operator _ = refl

by_blank : (kind : Last) → AreOthers kind → may_follow kind 32 ≡ true → (m : Mark) (b : ℕ) (xs : List ℕ) → mark_at b (xs ++ []) ≡ Some (token (mark m), length xs)
    → mark_at b (xs ++ 32 ∷ []) ≡ Some (token (mark m), length xs) → (rest : List ℕ) → may_go_on kind rest ≡ true → mark_at b (xs ++ rest) ≡ Some (token (mark m), length xs)
unfolding mark_at
by_blank kind others blank m b xs at_end at_blank [] go = at_end
by_blank kind others blank m b xs at_end at_blank (c ∷ cs) go =
    ap mark_front (longest_alike marks (b ∷ xs ++ c ∷ cs) (b ∷ xs ++ 32 ∷ []) (λ k. like_blank (may_follow kind) c cs b xs (spelling_of k) go blank (others k))) ∙ at_blank

-- ---- ( and /

bracket_read : (rest : List ℕ) → may_go_on Opened rest ≡ true → read_at false 40 rest ≡ Some (token (mark left_parenthesis), 0)
unfolding read_at bracket_at
bracket_read [] go = refl
bracket_read (c ∷ cs) go =
    ap (λ (t : Bool). cond (t && not (is_star_alone false cs)) (if_closed nothing (option_map suc (closing_length 42 41 false cs))) (Some (token (mark left_parenthesis), 0))) (not-true (c == 42) go)

slash_by : (c : ℕ) (cs : List ℕ) → may_follow Operator c ≡ true → slash_at (c ∷ cs) ≡ Some (token (mark slash), 0)
unfolding slash_at
slash_by c cs go =
    ap (λ (t : Bool). cond t (Some (nothing, suc (line_length cs))) (cond (c == 42) (if_closed nothing (option_map suc (closing_length 42 47 false cs))) (Some (token (mark slash), 0)))) (differs (may_follow Operator) c 47 go refl)
    ∙ ap (λ (t : Bool). cond t (if_closed nothing (option_map suc (closing_length 42 47 false cs))) (Some (token (mark slash), 0))) (differs (may_follow Operator) c 42 go refl)

slash_read : (rest : List ℕ) → may_go_on Operator rest ≡ true → read_at false 47 rest ≡ Some (token (mark slash), 0)
unfolding read_at slash_at
slash_read [] go = refl
slash_read (c ∷ cs) go = slash_by c cs go

-- ---- all marks

pub mark_token : (m : Mark) → IsToken (last_of_mark m) (mark m)
unfolding read_at mark_at longest_of marks
mark_token left_parenthesis = record { first = 40; others = []; is_text = refl; is_plain = refl; is_read = λ rest go. bracket_read rest go }
mark_token right_parenthesis = record { first = 41; others = []; is_text = refl; is_plain = refl; is_read = λ rest go. refl }
mark_token left_bracket = record { first = 91; others = []; is_text = refl; is_plain = refl; is_read = λ rest go. refl }
mark_token right_bracket = record { first = 93; others = []; is_text = refl; is_plain = refl; is_read = λ rest go. refl }
mark_token left_brace = record { first = 123; others = []; is_text = refl; is_plain = refl; is_read = λ rest go. refl }
mark_token right_brace = record { first = 125; others = []; is_text = refl; is_plain = refl; is_read = λ rest go. refl }
mark_token comma = record { first = 44; others = []; is_text = refl; is_plain = refl; is_read = λ rest go. refl }
mark_token semicolon = record { first = 59; others = []; is_text = refl; is_plain = refl; is_read = λ rest go. refl }
mark_token colon = record { first = 58; others = []; is_text = refl; is_plain = refl; is_read = λ rest go. refl }
mark_token dot = record { first = 46; others = []; is_text = refl; is_plain = refl; is_read = λ rest go. refl }
mark_token hash = record { first = 35; others = []; is_text = refl; is_plain = refl; is_read = λ rest go. refl }
mark_token at = record { first = 64; others = []; is_text = refl; is_plain = refl; is_read = λ rest go. refl }
mark_token question = record { first = 63; others = []; is_text = refl; is_plain = refl; is_read = λ rest go. refl }
mark_token equals = record { first = 61; others = []; is_text = refl; is_plain = refl; is_read = λ rest go. by_blank Operator behind_operator refl equals 61 ([]) refl refl rest go }
mark_token plus_colon = record { first = 43; others = 58 ∷ []; is_text = refl; is_plain = refl; is_read = λ rest go. by_blank Operator behind_operator refl plus_colon 43 (58 ∷ []) refl refl rest go }
mark_token minus_colon = record { first = 45; others = 58 ∷ []; is_text = refl; is_plain = refl; is_read = λ rest go. by_blank Operator behind_operator refl minus_colon 45 (58 ∷ []) refl refl rest go }
mark_token plus = record { first = 43; others = []; is_text = refl; is_plain = refl; is_read = λ rest go. by_blank Prefix behind_prefix refl plus 43 ([]) refl refl rest go }
mark_token minus = record { first = 45; others = []; is_text = refl; is_plain = refl; is_read = λ rest go. by_blank Prefix behind_prefix refl minus 45 ([]) refl refl rest go }
mark_token star = record { first = 42; others = []; is_text = refl; is_plain = refl; is_read = λ rest go. by_blank Operator behind_operator refl star 42 ([]) refl refl rest go }
mark_token double_star = record { first = 42; others = 42 ∷ []; is_text = refl; is_plain = refl; is_read = λ rest go. by_blank Operator behind_operator refl double_star 42 (42 ∷ []) refl refl rest go }
mark_token slash = record { first = 47; others = []; is_text = refl; is_plain = refl; is_read = λ rest go. slash_read rest go }
mark_token percent = record { first = 37; others = []; is_text = refl; is_plain = refl; is_read = λ rest go. by_blank Operator behind_operator refl percent 37 ([]) refl refl rest go }
mark_token exclamation = record { first = 33; others = []; is_text = refl; is_plain = refl; is_read = λ rest go. by_blank Prefix behind_prefix refl exclamation 33 ([]) refl refl rest go }
mark_token tilde = record { first = 126; others = []; is_text = refl; is_plain = refl; is_read = λ rest go. by_blank Prefix behind_prefix refl tilde 126 ([]) refl refl rest go }
mark_token ampersand = record { first = 38; others = []; is_text = refl; is_plain = refl; is_read = λ rest go. by_blank Prefix behind_prefix refl ampersand 38 ([]) refl refl rest go }
mark_token tilde_ampersand = record { first = 126; others = 38 ∷ []; is_text = refl; is_plain = refl; is_read = λ rest go. by_blank Prefix behind_prefix refl tilde_ampersand 126 (38 ∷ []) refl refl rest go }
mark_token bar = record { first = 124; others = []; is_text = refl; is_plain = refl; is_read = λ rest go. by_blank Prefix behind_prefix refl bar 124 ([]) refl refl rest go }
mark_token tilde_bar = record { first = 126; others = 124 ∷ []; is_text = refl; is_plain = refl; is_read = λ rest go. by_blank Prefix behind_prefix refl tilde_bar 126 (124 ∷ []) refl refl rest go }
mark_token caret = record { first = 94; others = []; is_text = refl; is_plain = refl; is_read = λ rest go. by_blank Prefix behind_prefix refl caret 94 ([]) refl refl rest go }
mark_token tilde_caret = record { first = 126; others = 94 ∷ []; is_text = refl; is_plain = refl; is_read = λ rest go. by_blank Prefix behind_prefix refl tilde_caret 126 (94 ∷ []) refl refl rest go }
mark_token caret_tilde = record { first = 94; others = 126 ∷ []; is_text = refl; is_plain = refl; is_read = λ rest go. by_blank Operator behind_operator refl caret_tilde 94 (126 ∷ []) refl refl rest go }
mark_token double_ampersand = record { first = 38; others = 38 ∷ []; is_text = refl; is_plain = refl; is_read = λ rest go. by_blank Operator behind_operator refl double_ampersand 38 (38 ∷ []) refl refl rest go }
mark_token double_bar = record { first = 124; others = 124 ∷ []; is_text = refl; is_plain = refl; is_read = λ rest go. by_blank Operator behind_operator refl double_bar 124 (124 ∷ []) refl refl rest go }
mark_token less = record { first = 60; others = []; is_text = refl; is_plain = refl; is_read = λ rest go. by_blank Operator behind_operator refl less 60 ([]) refl refl rest go }
mark_token less_equals = record { first = 60; others = 61 ∷ []; is_text = refl; is_plain = refl; is_read = λ rest go. by_blank Operator behind_operator refl less_equals 60 (61 ∷ []) refl refl rest go }
mark_token greater = record { first = 62; others = []; is_text = refl; is_plain = refl; is_read = λ rest go. by_blank Operator behind_operator refl greater 62 ([]) refl refl rest go }
mark_token greater_equals = record { first = 62; others = 61 ∷ []; is_text = refl; is_plain = refl; is_read = λ rest go. by_blank Operator behind_operator refl greater_equals 62 (61 ∷ []) refl refl rest go }
mark_token double_less = record { first = 60; others = 60 ∷ []; is_text = refl; is_plain = refl; is_read = λ rest go. by_blank Operator behind_operator refl double_less 60 (60 ∷ []) refl refl rest go }
mark_token double_greater = record { first = 62; others = 62 ∷ []; is_text = refl; is_plain = refl; is_read = λ rest go. by_blank Operator behind_operator refl double_greater 62 (62 ∷ []) refl refl rest go }
mark_token triple_less = record { first = 60; others = 60 ∷ 60 ∷ []; is_text = refl; is_plain = refl; is_read = λ rest go. by_blank Operator behind_operator refl triple_less 60 (60 ∷ 60 ∷ []) refl refl rest go }
mark_token triple_greater = record { first = 62; others = 62 ∷ 62 ∷ []; is_text = refl; is_plain = refl; is_read = λ rest go. by_blank Operator behind_operator refl triple_greater 62 (62 ∷ 62 ∷ []) refl refl rest go }
mark_token double_equals = record { first = 61; others = 61 ∷ []; is_text = refl; is_plain = refl; is_read = λ rest go. by_blank Operator behind_operator refl double_equals 61 (61 ∷ []) refl refl rest go }
mark_token exclamation_equals = record { first = 33; others = 61 ∷ []; is_text = refl; is_plain = refl; is_read = λ rest go. by_blank Operator behind_operator refl exclamation_equals 33 (61 ∷ []) refl refl rest go }
mark_token triple_equals = record { first = 61; others = 61 ∷ 61 ∷ []; is_text = refl; is_plain = refl; is_read = λ rest go. by_blank Operator behind_operator refl triple_equals 61 (61 ∷ 61 ∷ []) refl refl rest go }
mark_token exclamation_double_equals = record { first = 33; others = 61 ∷ 61 ∷ []; is_text = refl; is_plain = refl; is_read = λ rest go. by_blank Operator behind_operator refl exclamation_double_equals 33 (61 ∷ 61 ∷ []) refl refl rest go }
