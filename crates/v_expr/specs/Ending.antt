-- Where an expression ends, and how deep it is.
use Rattle.std.specs.Prelude.{◌≡◌, ℕ, suc, ◌≤◌, max, Bool, false, ◌==◌, List, [], ◌∷◌, Option, Some, None}
use Rattle.verilog_text.specs.Token.{Mark, left_parenthesis, right_parenthesis, left_bracket, right_bracket, left_brace, right_brace, comma, semicolon, colon, dot, hash, at, question, equals, plus_colon, minus_colon, plus, minus, star, double_star, slash, percent, exclamation, tilde, ampersand, tilde_ampersand, bar, tilde_bar, caret, tilde_caret, caret_tilde, double_ampersand, double_bar, less, less_equals, greater, greater_equals, double_less, double_greater, triple_less, triple_greater, double_equals, exclamation_equals, triple_equals, exclamation_double_equals, Token, based, mark}
use Rattle.verilog_trees.specs.Syntax.{Expression, Expressions, Select, Selects}
use Rattle.verilog_text.specs.Spelling.{Operator, operator_of, IsExpression, tighter, chosen, joined, prefixed, a_number, a_name, bracketed, concatenated, replicated, made_signed, made_unsigned, AreExpressions, last_one, and_more, IsSelect, by_index, by_part, by_part_up, by_part_down, AreSelects, no_select, one_select, two_selects}

abbrev pub place : Mark → ℕ
place left_parenthesis = 0
place right_parenthesis = 1
place left_bracket = 2
place right_bracket = 3
place left_brace = 4
place right_brace = 5
place comma = 6
place semicolon = 7
place colon = 8
place dot = 9
place hash = 10
place at = 11
place question = 12
place equals = 13
place plus_colon = 14
place minus_colon = 15
place plus = 16
place minus = 17
place star = 18
place double_star = 19
place slash = 20
place percent = 21
place exclamation = 22
place tilde = 23
place ampersand = 24
place tilde_ampersand = 25
place bar = 26
place tilde_bar = 27
place caret = 28
place tilde_caret = 29
place caret_tilde = 30
place double_ampersand = 31
place double_bar = 32
place less = 33
place less_equals = 34
place greater = 35
place greater_equals = 36
place double_less = 37
place double_greater = 38
place triple_less = 39
place triple_greater = 40
place double_equals = 41
place exclamation_equals = 42
place triple_equals = 43
place exclamation_double_equals = 44

abbrev pub is_same_mark : Mark → Mark → Bool
is_same_mark m n = place m == place n

-- no operator of a level above k
abbrev pub IsWithin : ℕ → Option Operator → Type 0
IsWithin k (Some o) = o.level ≤ k
IsWithin k None = Unit {0}

-- A mark behind an expression of level k does not go on with it: it is no operator that binds more tightly, no [, and behind a whole expression no ?.
abbrev pub EndsMark : ℕ → Mark → Type 0
EndsMark k m = IsWithin k (operator_of m) × (is_same_mark m left_bracket ≡ false) × (k ≡ 0 → is_same_mark m question ≡ false)

-- What follows does not go on with an expression of level k (the digits behind a size would).
abbrev pub Ends : ℕ → List Token → Type 0
Ends k [] = Unit {0}
Ends k (mark m ∷ rest) = EndsMark k m
Ends k (based text ∷ rest) = ⊥
Ends k (t ∷ rest) = Unit {0}

-- How many levels of brackets, and of values between ? and :, are open at most in a spelling.
abbrev mutual
  pub nesting : {k : ℕ} {e : Expression} {text rest : List Token} → IsExpression k e text rest → ℕ
  nesting (tighter _ _ _ _ d) = nesting d
  nesting (chosen _ _ _ _ _ _ _ c x y) = max (nesting c) (max (suc (nesting x)) (nesting y))
  nesting (joined _ _ _ _ _ _ _ _ a b) = max (nesting a) (nesting b)
  nesting (prefixed _ _ _ _ _ _ d) = nesting d
  nesting (a_number _ _ _ _) = 0
  nesting (a_name _ _ _ _ _ s) = nesting_of_selects s
  nesting (bracketed _ _ _ d) = suc (nesting d)
  nesting (concatenated _ _ _ d) = suc (nesting_of_parts d)
  nesting (replicated _ _ _ _ _ n d) = suc (max (nesting n) (nesting_of_parts d))
  nesting (made_signed _ _ _ d) = suc (nesting d)
  nesting (made_unsigned _ _ _ d) = suc (nesting d)

  pub nesting_of_parts : {es : Expressions} {text rest : List Token} → AreExpressions es text rest → ℕ
  nesting_of_parts (last_one _ _ _ d) = nesting d
  nesting_of_parts (and_more _ _ _ _ _ d ds) = max (nesting d) (nesting_of_parts ds)

  pub nesting_of_select : {s : Select} {text rest : List Token} → IsSelect s text rest → ℕ
  nesting_of_select (by_index _ _ _ d) = suc (nesting d)
  nesting_of_select (by_part _ _ _ _ _ l r) = suc (max (nesting l) (nesting r))
  nesting_of_select (by_part_up _ _ _ _ _ l r) = suc (max (nesting l) (nesting r))
  nesting_of_select (by_part_down _ _ _ _ _ l r) = suc (max (nesting l) (nesting r))

  pub nesting_of_selects : {s : Selects} {text rest : List Token} → AreSelects s text rest → ℕ
  nesting_of_selects (no_select _) = 0
  nesting_of_selects (one_select _ _ _ d) = nesting_of_select d
  nesting_of_selects (two_selects _ _ _ _ _ d more) = max (nesting_of_select d) (nesting_of_select more)
