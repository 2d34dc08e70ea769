-- Tokens and what they match.
use Rattle.std.proofs.Common.{◌≡◌, ℕ, Bool, true, false, cond, List, [], ◌∷◌, Option, Some, None, refl, sym, ap, ◌∙◌, subst}
use Rattle.std.specs.Prelude.{◌==◌, not, ◌||◌, is_some, codes}
use Rattle.std.specs.Str.{bytes_eq}
use Rattle.std.proofs.lemmas.Bool.{eqb-true, eq-eqb}
use Rattle.std.proofs.lemmas.Slice.Eq.{bytes_eq-Decides}
use Rattle.wb_values.specs.Value.{Name}
use Rattle.wb_values.specs.ReservedWords.{is_reserved}
use Rattle.verilog_text.specs.Token.{Mark, left_parenthesis, right_parenthesis, left_bracket, right_bracket, left_brace, right_brace, comma, semicolon, colon, dot, hash, at, question, equals, plus_colon, minus_colon, plus, minus, star, double_star, slash, percent, exclamation, tilde, ampersand, tilde_ampersand, bar, tilde_bar, caret, tilde_caret, caret_tilde, double_ampersand, double_bar, less, less_equals, greater, greater_equals, double_less, double_greater, triple_less, triple_greater, double_equals, exclamation_equals, triple_equals, exclamation_double_equals, Token, word, system, decimal, based, mark}
use Rattle.verilog_trees.specs.Syntax.{Expression}
use Rattle.verilog_text.specs.Spelling.{IsIdentifier, prefix_of, Operator, operator_of}
use Rattle.v_place.specs.Table.{Terminal, a_name, a_decimal, a_based, a_conversion, a_prefix, an_operator, the_word, the_mark, number_of_mark, matches}

-- the marks by their numbers
named : List Mark → ℕ → Mark
named [] n = left_parenthesis
named (m ∷ ms) n = cond (number_of_mark m == n) m (named ms n)

all : List Mark
all = left_parenthesis ∷ right_parenthesis ∷ left_bracket ∷ right_bracket ∷ left_brace ∷ right_brace ∷ comma ∷ semicolon ∷ colon ∷ dot ∷ hash ∷ at ∷ question ∷ equals ∷ plus_colon ∷ minus_colon ∷ plus ∷ minus ∷ star ∷ double_star ∷ slash ∷ percent ∷ exclamation ∷ tilde ∷ ampersand ∷ tilde_ampersand ∷ bar ∷ tilde_bar ∷ caret ∷ tilde_caret ∷ caret_tilde ∷ double_ampersand ∷ double_bar ∷ less ∷ less_equals ∷ greater ∷ greater_equals ∷ double_less ∷ double_greater ∷ triple_less ∷ triple_greater ∷ double_equals ∷ exclamation_equals ∷ triple_equals ∷ exclamation_double_equals ∷ []

named-number : (m : Mark) → named all (number_of_mark m) ≡ m
unfolding named all
named-number left_parenthesis = refl
named-number right_parenthesis = refl
named-number left_bracket = refl
named-number right_bracket = refl
named-number left_brace = refl
named-number right_brace = refl
named-number comma = refl
named-number semicolon = refl
named-number colon = refl
named-number dot = refl
named-number hash = refl
named-number at = refl
named-number question = refl
named-number equals = refl
named-number plus_colon = refl
named-number minus_colon = refl
named-number plus = refl
named-number minus = refl
named-number star = refl
named-number double_star = refl
named-number slash = refl
named-number percent = refl
named-number exclamation = refl
named-number tilde = refl
named-number ampersand = refl
named-number tilde_ampersand = refl
named-number bar = refl
named-number tilde_bar = refl
named-number caret = refl
named-number tilde_caret = refl
named-number caret_tilde = refl
named-number double_ampersand = refl
named-number double_bar = refl
named-number less = refl
named-number less_equals = refl
named-number greater = refl
named-number greater_equals = refl
named-number double_less = refl
named-number double_greater = refl
named-number triple_less = refl
named-number triple_greater = refl
named-number double_equals = refl
named-number exclamation_equals = refl
named-number triple_equals = refl
named-number exclamation_double_equals = refl

pub same_mark : (f m : Mark) → (number_of_mark f == number_of_mark m) ≡ true → f ≡ m
same_mark f m e = sym (named-number f) ∙ ap (named all) (eqb-true (number_of_mark f) (number_of_mark m) e) ∙ named-number m

-- ---- what follows from a token that a terminal matches

-- What a terminal says of a token in front.
abbrev pub IsToken : Terminal → (text rest : List Token) → Type 0
IsToken a_name text rest = (n : Name) × IsIdentifier n × (text ≡ word n ∷ rest)
IsToken a_decimal text rest = (d : List ℕ) × (text ≡ decimal d ∷ rest)
IsToken a_based text rest = (d : List ℕ) × (text ≡ based d ∷ rest)
IsToken a_conversion text rest = (n : Name) × ((bytes_eq n (codes "$signed") || bytes_eq n (codes "$unsigned")) ≡ true) × (text ≡ system n ∷ rest)
IsToken a_prefix text rest = (m : Mark) × (f : Expression → Expression) × (prefix_of m ≡ Some f) × (text ≡ mark m ∷ rest)
IsToken an_operator text rest = (m : Mark) × (o : Operator) × (operator_of m ≡ Some o) × (text ≡ mark m ∷ rest)
IsToken (the_word w) text rest = text ≡ word w ∷ rest
IsToken (the_mark m) text rest = text ≡ mark m ∷ rest

-- Each token of the terminal before the text has it.
abbrev pub Before : Terminal → List Token → (List Token → Type 0) → Type 0
Before a_name text P = (n : Name) → IsIdentifier n → P (word n ∷ text)
Before a_decimal text P = (d : List ℕ) → P (decimal d ∷ text)
Before a_based text P = (d : List ℕ) → P (based d ∷ text)
Before a_conversion text P = (n : Name) → (bytes_eq n (codes "$signed") || bytes_eq n (codes "$unsigned")) ≡ true → P (system n ∷ text)
Before a_prefix text P = (m : Mark) (f : Expression → Expression) → prefix_of m ≡ Some f → P (mark m ∷ text)
Before an_operator text P = (m : Mark) (o : Operator) → operator_of m ≡ Some o → P (mark m ∷ text)
Before (the_word w) text P = P (word w ∷ text)
Before (the_mark m) text P = P (mark m ∷ text)

pub token_before : (x : Terminal) (inner : List Token) (P : List Token → Type 0) → Before x inner P → (text : List Token) → IsToken x text inner → P text
token_before a_name inner P h text (n, free, e) = subst P (sym e) (h n free)
token_before a_decimal inner P h text (d, e) = subst P (sym e) (h d)
token_before a_based inner P h text (d, e) = subst P (sym e) (h d)
token_before a_conversion inner P h text (n, c, e) = subst P (sym e) (h n c)
token_before a_prefix inner P h text (m, f, p, e) = subst P (sym e) (h m f p)
token_before an_operator inner P h text (m, o, p, e) = subst P (sym e) (h m o p)
token_before (the_word w) inner P h text e = subst P (sym e) h
token_before (the_mark m) inner P h text e = subst P (sym e) h

some_of : {A : Type 0} (o : Option A) → is_some o ≡ true → (x : A) × (o ≡ Some x)
some_of (Some x) e = (x, refl)
some_of None e = absurd cc

not_true : (b : Bool) → not b ≡ true → b ≡ false
not_true true e = absurd cc
not_true false e = refl

pub word_is : (w : Name) (t : Token) → matches (the_word w) t ≡ true → t ≡ word w
word_is w (word n) e = ap word ((bytes_eq-Decides n w).0 e)
word_is w (system n) e = absurd cc
word_is w (decimal n) e = absurd cc
word_is w (based n) e = absurd cc
word_is w (mark m) e = absurd cc

pub mark_is : (m : Mark) (t : Token) → matches (the_mark m) t ≡ true → t ≡ mark m
mark_is m (mark f) e = ap mark (same_mark f m e)
mark_is m (word n) e = absurd cc
mark_is m (system n) e = absurd cc
mark_is m (decimal n) e = absurd cc
mark_is m (based n) e = absurd cc

-- what the terminal matches is a token of it
pub matched : (x : Terminal) (t : Token) (rest : List Token) → matches x t ≡ true → IsToken x (t ∷ rest) rest
matched a_name (word n) rest e = (n, not_true (is_reserved n) e, refl)
matched a_name (system n) rest e = absurd cc
matched a_name (decimal n) rest e = absurd cc
matched a_name (based n) rest e = absurd cc
matched a_name (mark n) rest e = absurd cc
matched a_decimal (decimal d) rest e = (d, refl)
matched a_decimal (word n) rest e = absurd cc
matched a_decimal (system n) rest e = absurd cc
matched a_decimal (based n) rest e = absurd cc
matched a_decimal (mark n) rest e = absurd cc
matched a_based (based d) rest e = (d, refl)
matched a_based (word n) rest e = absurd cc
matched a_based (system n) rest e = absurd cc
matched a_based (decimal n) rest e = absurd cc
matched a_based (mark n) rest e = absurd cc
matched a_conversion (system n) rest e = (n, e, refl)
matched a_conversion (word n) rest e = absurd cc
matched a_conversion (decimal n) rest e = absurd cc
matched a_conversion (based n) rest e = absurd cc
matched a_conversion (mark n) rest e = absurd cc
matched a_prefix (mark m) rest e = let p = some_of (prefix_of m) e in (m, p.0, p.1, refl)
matched a_prefix (word n) rest e = absurd cc
matched a_prefix (system n) rest e = absurd cc
matched a_prefix (decimal n) rest e = absurd cc
matched a_prefix (based n) rest e = absurd cc
matched an_operator (mark m) rest e = let p = some_of (operator_of m) e in (m, p.0, p.1, refl)
matched an_operator (word n) rest e = absurd cc
matched an_operator (system n) rest e = absurd cc
matched an_operator (decimal n) rest e = absurd cc
matched an_operator (based n) rest e = absurd cc
matched (the_word w) t rest e = ap (λ (u : Token). u ∷ rest) (word_is w t e)
matched (the_mark m) t rest e = ap (λ (u : Token). u ∷ rest) (mark_is m t e)
