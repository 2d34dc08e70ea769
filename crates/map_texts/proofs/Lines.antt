-- Tokens are read back from their text with a line feed at its end.
use Rattle.std.proofs.Common.{◌≡◌, ℕ, Bool, true, false, cond, ◌&&◌, List, [], ◌∷◌, ◌++◌, refl, ap, ap₂, ◌∙◌, append_assoc}
use Rattle.json.specs.Token.{Token, begin_object, end_object, begin_array, end_array, key, string, number, boolean, null, bad}
use Rattle.json.specs.Word.{ends_word, word}
use Rattle.json.specs.Lex.{Lexeme, token, comma, colon, string_token, lex, between, Place, fresh, after_value, begins_colon, punctuate, tokens}
use Rattle.json.specs.Print.{escape, quoted, token_text, begins, ends, print_from, print, IsPrintable, ArePrintable}
use Rattle.json.proofs.Printed.Strings.{content-escape, lex-escape}
use Rattle.json.proofs.Printed.Numbers.{lex-number, in_word-ended}

abbrev token_lexemes : Token → List Lexeme
token_lexemes begin_object = token begin_object ∷ []
token_lexemes end_object = token end_object ∷ []
token_lexemes begin_array = token begin_array ∷ []
token_lexemes end_array = token end_array ∷ []
token_lexemes (key s) = token (string s) ∷ colon ∷ []
token_lexemes (string s) = token (string s) ∷ []
token_lexemes (number s) = token (number s) ∷ []
token_lexemes (boolean b) = token (boolean b) ∷ []
token_lexemes null = token null ∷ []
token_lexemes bad = []

abbrev lexemes : Bool → List Token → List Lexeme
lexemes c [] = []
lexemes c (t ∷ ts) = cond (c && begins t) (comma ∷ []) [] ++ (token_lexemes t ++ lexemes (ends t) ts)

-- after a value stands a comma, a closing bracket or nothing
after_value_ends : (ts : List Token) → ends_word (print_from true ts ++ 10 ∷ []) ≡ true
unfolding print_from
after_value_ends [] = refl
after_value_ends (begin_object ∷ ts) = refl
after_value_ends (end_object ∷ ts) = refl
after_value_ends (begin_array ∷ ts) = refl
after_value_ends (end_array ∷ ts) = refl
after_value_ends (key s ∷ ts) = refl
after_value_ends (string s ∷ ts) = refl
after_value_ends (number s ∷ ts) = refl
after_value_ends (boolean b ∷ ts) = refl
after_value_ends (null ∷ ts) = refl
after_value_ends (bad ∷ ts) = refl

lex-quoted : (s r : List ℕ) → lex between (quoted s ++ r) ≡ token (string s) ∷ lex between r
unfolding lex
lex-quoted s r =
    let e = append_assoc (escape s) (34 ∷ []) r in
    ap (λ l. lex between (34 ∷ l)) e ∙ ap₂ (λ o l. token (string_token o) ∷ l) (content-escape s r) (lex-escape s r)

lex-token_text : (t : Token) (r : List ℕ) → IsPrintable t → (ends t ≡ true → ends_word r ≡ true) → lex between (token_text t ++ r) ≡ token_lexemes t ++ lex between r
unfolding lex word
lex-token_text begin_object r h ended = refl
lex-token_text end_object r h ended = refl
lex-token_text begin_array r h ended = refl
lex-token_text end_array r h ended = refl
lex-token_text (key s) r h ended = ap (lex between) (append_assoc (quoted s) (58 ∷ []) r) ∙ lex-quoted s (58 ∷ r)
lex-token_text (string s) r h ended = lex-quoted s r
lex-token_text (number s) r h ended = lex-number s r h (ended refl)
lex-token_text (boolean true) r h ended = ap₂ (λ b l. token (cond b (boolean true) bad) ∷ l) (ended refl) (in_word-ended r (ended refl))
lex-token_text (boolean false) r h ended = ap₂ (λ b l. token (cond b (boolean false) bad) ∷ l) (ended refl) (in_word-ended r (ended refl))
lex-token_text null r h ended = ap₂ (λ b l. token (cond b null bad) ∷ l) (ended refl) (in_word-ended r (ended refl))
lex-token_text bad r h ended = absurd h

lex-separator : (b : Bool) (r : List ℕ) → lex between (cond b (44 ∷ []) [] ++ r) ≡ cond b (comma ∷ []) [] ++ lex between r
unfolding lex
lex-separator true r = refl
lex-separator false r = refl

lex-print_line : (c : Bool) (ts : List Token) → ArePrintable ts → lex between (print_from c ts ++ 10 ∷ []) ≡ lexemes c ts
unfolding lex print_from ArePrintable
lex-print_line c [] h = refl
lex-print_line c (t ∷ ts) h =
    let rest = print_from (ends t) ts ++ 10 ∷ [] in
    ap (lex between) (append_assoc (cond (c && begins t) (44 ∷ []) []) (token_text t ++ print_from (ends t) ts) (10 ∷ []))
    ∙ (ap (λ l. lex between (cond (c && begins t) (44 ∷ []) [] ++ l)) (append_assoc (token_text t) (print_from (ends t) ts) (10 ∷ []))
    ∙ (lex-separator (c && begins t) (token_text t ++ rest)
    ∙ ap (λ l. cond (c && begins t) (comma ∷ []) [] ++ l)
    (lex-token_text t rest h.0 (λ e. ap (λ b. ends_word (print_from b ts ++ 10 ∷ [])) e ∙ after_value_ends ts)
    ∙ ap (λ l. token_lexemes t ++ l) (lex-print_line (ends t) ts h.1))))

no_colon : (ts : List Token) → begins_colon (lexemes true ts) ≡ false
no_colon [] = refl
no_colon (begin_object ∷ ts) = refl
no_colon (end_object ∷ ts) = refl
no_colon (begin_array ∷ ts) = refl
no_colon (end_array ∷ ts) = refl
no_colon (key s ∷ ts) = refl
no_colon (string s ∷ ts) = refl
no_colon (number s ∷ ts) = refl
no_colon (boolean b ∷ ts) = refl
no_colon (null ∷ ts) = refl
no_colon (bad ∷ ts) = refl

abbrev place : Bool → Place
place c = cond c after_value fresh

punctuate-lexemes : (c : Bool) (ts : List Token) → ArePrintable ts → punctuate (place c) (lexemes c ts) ≡ ts
unfolding punctuate ArePrintable
punctuate-lexemes true [] h = refl
punctuate-lexemes false [] h = refl
punctuate-lexemes true (begin_object ∷ ts) h = ap (λ l. begin_object ∷ l) (punctuate-lexemes false ts h.1)
punctuate-lexemes true (end_object ∷ ts) h = ap (λ l. end_object ∷ l) (punctuate-lexemes true ts h.1)
punctuate-lexemes true (begin_array ∷ ts) h = ap (λ l. begin_array ∷ l) (punctuate-lexemes false ts h.1)
punctuate-lexemes true (end_array ∷ ts) h = ap (λ l. end_array ∷ l) (punctuate-lexemes true ts h.1)
punctuate-lexemes true (key s ∷ ts) h = ap (λ l. key s ∷ l) (punctuate-lexemes false ts h.1)
punctuate-lexemes true (number s ∷ ts) h = ap (λ l. number s ∷ l) (punctuate-lexemes true ts h.1)
punctuate-lexemes true (boolean b ∷ ts) h = ap (λ l. boolean b ∷ l) (punctuate-lexemes true ts h.1)
punctuate-lexemes true (null ∷ ts) h = ap (λ l. null ∷ l) (punctuate-lexemes true ts h.1)
punctuate-lexemes true (string s ∷ ts) h = rw (no_colon ts) (ap (λ l. string s ∷ l) (punctuate-lexemes true ts h.1))
punctuate-lexemes true (bad ∷ ts) h = absurd h.0
punctuate-lexemes false (begin_object ∷ ts) h = ap (λ l. begin_object ∷ l) (punctuate-lexemes false ts h.1)
punctuate-lexemes false (end_object ∷ ts) h = ap (λ l. end_object ∷ l) (punctuate-lexemes true ts h.1)
punctuate-lexemes false (begin_array ∷ ts) h = ap (λ l. begin_array ∷ l) (punctuate-lexemes false ts h.1)
punctuate-lexemes false (end_array ∷ ts) h = ap (λ l. end_array ∷ l) (punctuate-lexemes true ts h.1)
punctuate-lexemes false (key s ∷ ts) h = ap (λ l. key s ∷ l) (punctuate-lexemes false ts h.1)
punctuate-lexemes false (number s ∷ ts) h = ap (λ l. number s ∷ l) (punctuate-lexemes true ts h.1)
punctuate-lexemes false (boolean b ∷ ts) h = ap (λ l. boolean b ∷ l) (punctuate-lexemes true ts h.1)
punctuate-lexemes false (null ∷ ts) h = ap (λ l. null ∷ l) (punctuate-lexemes true ts h.1)
punctuate-lexemes false (string s ∷ ts) h = rw (no_colon ts) (ap (λ l. string s ∷ l) (punctuate-lexemes true ts h.1))
punctuate-lexemes false (bad ∷ ts) h = absurd h.0

pub tokens-print_line : (ts : List Token) → ArePrintable ts → tokens (print ts ++ 10 ∷ []) ≡ ts
tokens-print_line ts h = ap (punctuate fresh) (lex-print_line false ts h) ∙ punctuate-lexemes false ts h
