-- Marks are told apart by their places.
use Rattle.std.proofs.Common.{◌≡◌, ℕ, Bool, true, false, cond, List, [], ◌∷◌, Some, None, refl, sym, ap, ◌∙◌}
use Rattle.std.specs.Prelude.{◌==◌}
use Rattle.std.proofs.lemmas.Bool.{eqb-true, eq-eqb}
use Rattle.verilog_text.specs.Token.{Mark, left_parenthesis, right_parenthesis, left_bracket, right_bracket, left_brace, right_brace, comma, semicolon, colon, dot, hash, at, question, equals, plus_colon, minus_colon, plus, minus, star, double_star, slash, percent, exclamation, tilde, ampersand, tilde_ampersand, bar, tilde_bar, caret, tilde_caret, caret_tilde, double_ampersand, double_bar, less, less_equals, greater, greater_equals, double_less, double_greater, triple_less, triple_greater, double_equals, exclamation_equals, triple_equals, exclamation_double_equals, Token, word, system, decimal, based, mark}
use Rattle.v_expr.specs.Ending.{place, is_same_mark}
use Rattle.v_expr.specs.Reading.{is_mark, after_mark}
use Rattle.v_expr.proofs.Repeat.{some_is}

-- the marks by their places
named : List Mark → ℕ → Mark
named [] n = left_parenthesis
named (m ∷ ms) n = cond (place m == n) m (named ms n)

all : List Mark
all = left_parenthesis ∷ right_parenthesis ∷ left_bracket ∷ right_bracket ∷ left_brace ∷ right_brace ∷ comma ∷ semicolon ∷ colon ∷ dot ∷ hash ∷ at ∷ question ∷ equals ∷ plus_colon ∷ minus_colon ∷ plus ∷ minus ∷ star ∷ double_star ∷ slash ∷ percent ∷ exclamation ∷ tilde ∷ ampersand ∷ tilde_ampersand ∷ bar ∷ tilde_bar ∷ caret ∷ tilde_caret ∷ caret_tilde ∷ double_ampersand ∷ double_bar ∷ less ∷ less_equals ∷ greater ∷ greater_equals ∷ double_less ∷ double_greater ∷ triple_less ∷ triple_greater ∷ double_equals ∷ exclamation_equals ∷ triple_equals ∷ exclamation_double_equals ∷ []

named-place : (m : Mark) → named all (place m) ≡ m
unfolding named all
named-place left_parenthesis = refl
named-place right_parenthesis = refl
named-place left_bracket = refl
named-place right_bracket = refl
named-place left_brace = refl
named-place right_brace = refl
named-place comma = refl
named-place semicolon = refl
named-place colon = refl
named-place dot = refl
named-place hash = refl
named-place at = refl
named-place question = refl
named-place equals = refl
named-place plus_colon = refl
named-place minus_colon = refl
named-place plus = refl
named-place minus = refl
named-place star = refl
named-place double_star = refl
named-place slash = refl
named-place percent = refl
named-place exclamation = refl
named-place tilde = refl
named-place ampersand = refl
named-place tilde_ampersand = refl
named-place bar = refl
named-place tilde_bar = refl
named-place caret = refl
named-place tilde_caret = refl
named-place caret_tilde = refl
named-place double_ampersand = refl
named-place double_bar = refl
named-place less = refl
named-place less_equals = refl
named-place greater = refl
named-place greater_equals = refl
named-place double_less = refl
named-place double_greater = refl
named-place triple_less = refl
named-place triple_greater = refl
named-place double_equals = refl
named-place exclamation_equals = refl
named-place triple_equals = refl
named-place exclamation_double_equals = refl

pub same_place : (f m : Mark) → place f ≡ place m → f ≡ m
same_place f m e = sym (named-place f) ∙ ap (named all) e ∙ named-place m

pub is_mark_is : (m : Mark) (t : Token) → is_mark m t ≡ true → t ≡ mark m
is_mark_is m (mark f) e = ap mark (same_place f m (eqb-true (place f) (place m) e))
is_mark_is m (word w) e = absurd cc
is_mark_is m (system w) e = absurd cc
is_mark_is m (decimal n) e = absurd cc
is_mark_is m (based n) e = absurd cc

mark_by : (m : Mark) (t : Token) (ts rest : List Token) (b : Bool) → is_mark m t ≡ b → cond b (Some ts) None ≡ Some rest → t ∷ ts ≡ mark m ∷ rest
mark_by m t ts rest true e f = ap (λ (u : Token). u ∷ ts) (is_mark_is m t e) ∙ ap (λ (us : List Token). mark m ∷ us) (some_is ts rest f)
mark_by m t ts rest false e f = absurd cc

pub mark_spelled : (m : Mark) {ts rest : List Token} → after_mark m ts ≡ Some rest → ts ≡ mark m ∷ rest
unfolding after_mark
mark_spelled m {ts = []} e = absurd cc
mark_spelled m {ts = t ∷ ts} {rest = rest} e = mark_by m t ts rest (is_mark m t) refl e

pub mark_again : (m : Mark) (rest : List Token) → after_mark m (mark m ∷ rest) ≡ Some rest
unfolding after_mark
mark_again m rest = let e : (place m == place m) ≡ true = eq-eqb (place m) (place m) refl in rw e refl

pub other_mark : (m f : Mark) (rest : List Token) → is_same_mark f m ≡ false → after_mark m (mark f ∷ rest) ≡ None
unfolding after_mark
other_mark m f rest e = rw e refl
