-- A text that has tokens is read as them.
use Rattle.std.proofs.Common.{◌≡◌, ℕ, zero, suc, Bool, true, false, List, [], ◌∷◌, ◌++◌, length, Ok, refl, sym, ap, ◌∙◌, arith}
use Rattle.std.specs.Prelude.{not, ◌&&◌, ◌||◌, ◌==◌, nat_lt}
use Rattle.std.specs.List.{list_all}
use Rattle.std.specs.Char.{is_ascii}
use Rattle.std.specs.Str.{IsAscii, is_utf8}
use Rattle.std.proofs.lemmas.Bool.{and_parts, and_from, and_left, and_right, or_from, or_parts, cond-true, cond-false}
use Rattle.std.proofs.lemmas.Bool.Decides.{nat_tests}
use Rattle.std.proofs.lemmas.Str.{IsUtf8-from_ascii, is_utf8-from_IsUtf8}
use Rattle.verilog_text.specs.Token.{Token}
use Rattle.verilog_text.specs.Lexical.{nothing, token}
use Rattle.verilog_text.specs.Text.{Part, piece, end_of_file, Conditional, open_after, with_parts, with_macro_text, without_byte_order_mark, with_file, with_files, tokens_read, bytes_used, most_tokens, most_used, passes_limit, is_zero, is_based, is_zero_last, has_bad_token, is_none_open, is_bad_directive, has_bad_directive, has_excluded, is_too_deep, answer_of, tokens_in}
use Rattle.v_print.specs.Reads.{IsCalm, after_text, HasTokens}
use Rattle.v_print.specs.Whole.{has_zero_size}
use Rattle.v_print.proofs.Parts.{calm_open}

-- ---- tokens and blanks break no rule

calm_used : (ps : List Part) → IsCalm ps → bytes_used ps ≡ 0
unfolding bytes_used
calm_used [] h = refl
calm_used (piece nothing ∷ before) h = calm_used before h
calm_used (piece (token t) ∷ before) h = calm_used before h
calm_used (_ ∷ before) h = absurd h

calm_directives : (ps : List Part) → IsCalm ps → has_bad_directive ps ≡ false
unfolding has_bad_directive is_bad_directive
calm_directives [] h = refl
calm_directives (piece nothing ∷ before) h = calm_directives before h
calm_directives (piece (token t) ∷ before) h = calm_directives before h
calm_directives (_ ∷ before) h = absurd h

calm_excluded : (ps : List Part) → IsCalm ps → has_excluded ps ≡ false
unfolding has_excluded
calm_excluded [] h = refl
calm_excluded (piece nothing ∷ before) h = calm_excluded before h
calm_excluded (piece (token t) ∷ before) h = calm_excluded before h
calm_excluded (_ ∷ before) h = absurd h

-- ---- sizes

abbrev is_last_zero : List Token → Bool
is_last_zero [] = false
is_last_zero (t ∷ []) = is_zero t
is_last_zero (t ∷ u ∷ ts) = is_last_zero (u ∷ ts)

last_of_pushed : (xs : List Token) (t : Token) → is_last_zero (xs ++ t ∷ []) ≡ is_zero t
last_of_pushed [] t = refl
last_of_pushed (x ∷ []) t = refl
last_of_pushed (x ∷ y ∷ xs) t = last_of_pushed (y ∷ xs) t

pushed_size : (xs : List Token) (t : Token) → has_zero_size (xs ++ t ∷ []) ≡ false → (has_zero_size xs ≡ false) × ((is_last_zero xs && is_based t) ≡ false)
pushed_size [] t h = (refl, refl)
pushed_size (x ∷ []) t h =
    let parts = or_parts (is_zero x && is_based t) (has_zero_size (t ∷ [])) h in
    (or_from (is_zero x && false) false (and_right (is_zero x) false refl) refl, parts.0)
pushed_size (x ∷ y ∷ xs) t h =
    let parts = or_parts (is_zero x && is_based y) (has_zero_size (y ∷ xs ++ t ∷ [])) h in
    let later = pushed_size (y ∷ xs) t parts.1 in
    (or_from (is_zero x && is_based y) (has_zero_size (y ∷ xs)) parts.0 later.0, later.1)

calm_last : (ps : List Part) → IsCalm ps → is_zero_last ps ≡ is_last_zero (tokens_read ps)
unfolding is_zero_last tokens_read
calm_last [] h = refl
calm_last (piece nothing ∷ before) h = calm_last before h
calm_last (piece (token t) ∷ before) h = sym (last_of_pushed (tokens_read before) t)
calm_last (_ ∷ before) h = absurd h

calm_tokens : (ps : List Part) → IsCalm ps → has_zero_size (tokens_read ps) ≡ false → has_bad_token ps ≡ false
unfolding has_bad_token tokens_read
calm_tokens [] h z = refl
calm_tokens (piece nothing ∷ before) h z =
    or_from (has_bad_token before) (not (passes_limit before) && false) (calm_tokens before h z) (and_right (not (passes_limit before)) false refl)
calm_tokens (piece (token t) ∷ before) h z =
    let parts = pushed_size (tokens_read before) t z in
    or_from (has_bad_token before) (not (passes_limit before) && (is_zero_last before && is_based t)) (calm_tokens before h parts.0)
    (and_right (not (passes_limit before)) (is_zero_last before && is_based t) (ap (λ (b : Bool). b && is_based t) (calm_last before h) ∙ parts.1))
calm_tokens (_ ∷ before) h z = absurd h

-- ---- the text

each_below : (bs : List ℕ) → list_all is_ascii bs ≡ true → IsAscii bs
each_below [] h i = omega arith
each_below (b ∷ bs) h zero = grind (arith, nat_tests)
each_below (b ∷ bs) h (suc i) = each_below bs (and_parts (is_ascii b) (list_all is_ascii bs) h).1 i

is_text : (bs : List ℕ) → list_all is_ascii bs ≡ true → list_all is_utf8 (bs ∷ []) ≡ true
is_text bs h = and_from (is_utf8 bs) true (is_utf8-from_IsUtf8 bs (IsUtf8-from_ascii bs (each_below bs h))) refl

no_mark_byte : (b : ℕ) → is_ascii b ≡ true → (b == 239) ≡ false
no_mark_byte b h = grind (arith, nat_tests)

no_byte_order_mark : (bs : List ℕ) → list_all is_ascii bs ≡ true → without_byte_order_mark bs ≡ bs
unfolding without_byte_order_mark
no_byte_order_mark [] h = refl
no_byte_order_mark (a ∷ []) h = refl
no_byte_order_mark (a ∷ b ∷ []) h = refl
no_byte_order_mark (a ∷ b ∷ c ∷ bs) h =
    cond-false (a == 239 && b == 187 && c == 191) _ _
    (and_left (a == 239 && b == 187) (c == 191) (and_left (a == 239) (b == 187) (no_mark_byte a (and_parts (is_ascii a) (list_all is_ascii (b ∷ c ∷ bs)) h).0)))

one_file : (bytes : List ℕ) → list_all is_ascii bytes ≡ true → with_files (bytes ∷ []) [] ≡ end_of_file ∷ after_text bytes []
unfolding with_files with_file after_text
one_file bytes h = ap (λ (bs : List ℕ). end_of_file ∷ with_parts false (with_macro_text 64) 0 bs []) (no_byte_order_mark bytes h)

-- the rules over the parts of a file
none_broken : (ps : List Part) (ts : List Token) → IsCalm ps → tokens_read ps ≡ ts → nat_lt most_tokens (length ts) ≡ false → has_zero_size ts ≡ false → is_too_deep [] ts ≡ false
    → answer_of (end_of_file ∷ ps) ≡ Ok ts
unfolding answer_of has_bad_token passes_limit tokens_read bytes_used has_bad_directive is_bad_directive has_excluded most_used
none_broken ps ts calm are few sized shallow =
    let small : passes_limit (end_of_file ∷ ps) ≡ false =
    or_from (nat_lt most_tokens (length (tokens_read ps))) (nat_lt most_used (bytes_used ps))
    (ap (λ (q : List Token). nat_lt most_tokens (length q)) are ∙ few) (ap (λ (n : ℕ). nat_lt most_used n) (calm_used ps calm)) in
    cond-false (has_bad_token (end_of_file ∷ ps)) _ _
    (or_from (has_bad_token ps) (not (passes_limit ps) && false) (calm_tokens ps calm (ap has_zero_size are ∙ sized)) (and_right (not (passes_limit ps)) false refl))
    ∙ cond-false (passes_limit (end_of_file ∷ ps) || has_bad_directive (end_of_file ∷ ps)) _ _
    (or_from (passes_limit (end_of_file ∷ ps)) (has_bad_directive (end_of_file ∷ ps)) small
    (or_from (not (is_none_open (open_after ps))) (has_bad_directive ps) (ap (λ (o : List Conditional). not (is_none_open o)) (calm_open ps calm)) (calm_directives ps calm)))
    ∙ cond-false (has_excluded (end_of_file ∷ ps)) _ _ (calm_excluded ps calm)
    ∙ cond-false (is_too_deep [] (tokens_read (end_of_file ∷ ps))) _ _ (ap (is_too_deep []) are ∙ shallow)
    ∙ ap (λ (q : List Token). Ok q) are

pub text_read : (bytes : List ℕ) (ts : List Token) → HasTokens bytes ts → nat_lt most_tokens (length ts) ≡ false → has_zero_size ts ≡ false → is_too_deep [] ts ≡ false
    → tokens_in (bytes ∷ []) ≡ Ok ts
unfolding tokens_in tokens_read
text_read bytes ts has few sized shallow =
    cond-true (list_all is_utf8 (bytes ∷ [])) _ _ (is_text bytes has.is_plain)
    ∙ ap answer_of (one_file bytes has.is_plain)
    ∙ none_broken (after_text bytes []) ts (has.is_calm [] tt) (has.tokens [] tt) few sized shallow
