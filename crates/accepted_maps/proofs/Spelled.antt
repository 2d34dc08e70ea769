-- In what is spelled by tokens all numbers fit their widths.
use Rattle.std.proofs.Common.{◌≡◌, ℕ, suc, ◌^◌, ◌%◌, ◌<◌, ◌≤◌, Bool, true, false, cond, List, [], ◌∷◌, Option, Some, None, subst, arith, mod-lt, pow_pos, pow_mono}
use Rattle.std.specs.Prelude.{◌||◌, ◌==◌}
use Prim.Native.Char.{code}
use Rattle.verilog_trees.specs.Syntax.{Number, Expression, Expressions, Select, Selects}
use Rattle.verilog_text.specs.Token.{Token, Mark, plus, minus, tilde, exclamation, ampersand, tilde_ampersand, bar, tilde_bar, caret, tilde_caret, caret_tilde, double_bar, double_ampersand, double_equals, triple_equals, exclamation_equals, exclamation_double_equals, less, less_equals, greater, greater_equals, double_less, triple_less, double_greater, triple_greater, star, slash, percent, double_star}
use Rattle.verilog_text.specs.Spelling.{digits_from, digit_value, base_of, kept_width, width_of_size, number_in_base, behind_sign, based_number, decimal_value, IsNumber, plain, unsized, of_size, prefix_of, Operator, operator_of, IsExpression, tighter, chosen, joined, prefixed, a_number, a_name, bracketed, concatenated, replicated, made_signed, made_unsigned, AreExpressions, last_one, and_more, IsSelect, by_index, by_part, by_part_up, by_part_down, AreSelects, no_select, one_select, two_selects}
use Rattle.verilog_settled.specs.Locality.{LeavesAre, AllLeavesAre, SelectIs, SelectsAre}
use Rattle.verilog_unique.specs.Unique.{AnyName}

-- ---- numbers

abbrev Fits : Number → Type 0
Fits k = k.value < 2 ^ k.width

in_base : (size : Option ℕ) (signed : Bool) (base : ℕ) (digits : List ℕ) → Fits (number_in_base size signed base digits)
in_base size signed base digits =
    let w = width_of_size size in
    let kept : kept_width w ≤ w = omega arith in
    let more : 2 ^ kept_width w ≤ 2 ^ w = pow_mono kept in
    let cut : digits_from base digit_value 0 digits % 2 ^ kept_width w < 2 ^ kept_width w = mod-lt (digits_from base digit_value 0 digits) (pow_pos (kept_width w)) in
    omega (arith, more, cut)

behind : (size : Option ℕ) (signed : Bool) (text : List ℕ) → Fits (behind_sign size signed text)
behind size signed [] = in_base size signed 10 []
behind size signed (b ∷ digits) = in_base size signed (base_of b) digits

based_fits : (size : Option ℕ) (text : List ℕ) → Fits (based_number size text)
based_fits size [] = behind size false []
based_fits size (q ∷ []) = behind size false []
based_fits size (q ∷ b ∷ text) = by (b == code "s" || b == code "S")
  where
    by : (t : Bool) → Fits (cond t (behind_sign size true text) (behind_sign size false (b ∷ text)))
    by true = behind size true text
    by false = behind size false (b ∷ text)

number_fits : (n : Number) (text rest : List Token) → IsNumber n text rest → Fits n
number_fits _ _ _ (plain text rest) = mod-lt (decimal_value text) (pow_pos 32)
number_fits _ _ _ (unsized text rest) = based_fits None text
number_fits _ _ _ (of_size size text rest) = based_fits (Some (decimal_value size)) text

-- ---- operators

some_same : {A : Type 0} {x y : A} → Some x ≡ Some y → x ≡ y
some_same e = cc

abbrev Good : Expression → Type 0
Good e = LeavesAre AnyName e

-- what joins two operands, or stands before one, brings no number
abbrev Joins : Operator → Type 0
Joins o = (a b : Expression) → Good a → Good b → Good (o.joins a b)

operator_joins : (m : Mark) (o : Operator) → operator_of m ≡ Some o → Joins o
operator_joins double_bar o e = subst Joins (some_same e) (λ a b h k. (h, k))
operator_joins double_ampersand o e = subst Joins (some_same e) (λ a b h k. (h, k))
operator_joins bar o e = subst Joins (some_same e) (λ a b h k. (h, k))
operator_joins caret o e = subst Joins (some_same e) (λ a b h k. (h, k))
operator_joins caret_tilde o e = subst Joins (some_same e) (λ a b h k. (h, k))
operator_joins tilde_caret o e = subst Joins (some_same e) (λ a b h k. (h, k))
operator_joins ampersand o e = subst Joins (some_same e) (λ a b h k. (h, k))
operator_joins double_equals o e = subst Joins (some_same e) (λ a b h k. (h, k))
operator_joins triple_equals o e = subst Joins (some_same e) (λ a b h k. (h, k))
operator_joins exclamation_equals o e = subst Joins (some_same e) (λ a b h k. (h, k))
operator_joins exclamation_double_equals o e = subst Joins (some_same e) (λ a b h k. (h, k))
operator_joins less o e = subst Joins (some_same e) (λ a b h k. (h, k))
operator_joins less_equals o e = subst Joins (some_same e) (λ a b h k. (h, k))
operator_joins greater o e = subst Joins (some_same e) (λ a b h k. (h, k))
operator_joins greater_equals o e = subst Joins (some_same e) (λ a b h k. (h, k))
operator_joins double_less o e = subst Joins (some_same e) (λ a b h k. (h, k))
operator_joins triple_less o e = subst Joins (some_same e) (λ a b h k. (h, k))
operator_joins double_greater o e = subst Joins (some_same e) (λ a b h k. (h, k))
operator_joins triple_greater o e = subst Joins (some_same e) (λ a b h k. (h, k))
operator_joins plus o e = subst Joins (some_same e) (λ a b h k. (h, k))
operator_joins minus o e = subst Joins (some_same e) (λ a b h k. (h, k))
operator_joins star o e = subst Joins (some_same e) (λ a b h k. (h, k))
operator_joins slash o e = subst Joins (some_same e) (λ a b h k. (h, k))
operator_joins percent o e = subst Joins (some_same e) (λ a b h k. (h, k))
operator_joins double_star o e = subst Joins (some_same e) (λ a b h k. (h, k))
operator_joins _ o e = absurd (let none : None ≡ Some o = e in cc)

abbrev Keeps : (Expression → Expression) → Type 0
Keeps f = (a : Expression) → Good a → Good (f a)

prefix_keeps : (m : Mark) (f : Expression → Expression) → prefix_of m ≡ Some f → Keeps f
prefix_keeps plus f e = subst Keeps (some_same e) (λ a h. h)
prefix_keeps minus f e = subst Keeps (some_same e) (λ a h. h)
prefix_keeps tilde f e = subst Keeps (some_same e) (λ a h. h)
prefix_keeps exclamation f e = subst Keeps (some_same e) (λ a h. h)
prefix_keeps ampersand f e = subst Keeps (some_same e) (λ a h. h)
prefix_keeps tilde_ampersand f e = subst Keeps (some_same e) (λ a h. h)
prefix_keeps bar f e = subst Keeps (some_same e) (λ a h. h)
prefix_keeps tilde_bar f e = subst Keeps (some_same e) (λ a h. h)
prefix_keeps caret f e = subst Keeps (some_same e) (λ a h. h)
prefix_keeps tilde_caret f e = subst Keeps (some_same e) (λ a h. h)
prefix_keeps caret_tilde f e = subst Keeps (some_same e) (λ a h. h)
prefix_keeps _ f e = absurd (let none : None ≡ Some f = e in cc)

-- ---- expressions

mutual
  pub spelled : (k : ℕ) (e : Expression) (text rest : List Token) → IsExpression k e text rest → LeavesAre AnyName e
  spelled _ _ _ _ (tighter k e text rest h) = spelled (suc k) e text rest h
  spelled _ _ _ _ (chosen c x y text then else rest h g f) = (spelled _ c _ _ h, spelled _ x _ _ g, spelled _ y _ _ f)
  spelled _ _ _ _ (joined m o a b text more rest e h g) = operator_joins m o e a b (spelled _ a _ _ h) (spelled _ b _ _ g)
  spelled _ _ _ _ (prefixed m f a text rest e h) = prefix_keeps m f e a (spelled _ a _ _ h)
  spelled _ _ _ _ (a_number n text rest h) = number_fits n text rest h
  spelled _ _ _ _ (a_name n s text rest i h) = (tt, selects_spelled s text rest h)
  spelled _ _ _ _ (bracketed e text rest h) = spelled _ e _ _ h
  spelled _ _ _ _ (concatenated es text rest h) = all_spelled es _ _ h
  spelled _ _ _ _ (replicated n es text parts rest h g) = all_spelled es _ _ g
  spelled _ _ _ _ (made_signed e text rest h) = spelled _ e _ _ h
  spelled _ _ _ _ (made_unsigned e text rest h) = spelled _ e _ _ h

  all_spelled : (es : Expressions) (text rest : List Token) → AreExpressions es text rest → AllLeavesAre AnyName es
  all_spelled _ _ _ (last_one e text rest h) = (spelled _ e _ _ h, tt)
  all_spelled _ _ _ (and_more e es text more rest h g) = (spelled _ e _ _ h, all_spelled es _ _ g)

  select_spelled : (x : Select) (text rest : List Token) → IsSelect x text rest → SelectIs AnyName x
  select_spelled _ _ _ (by_index e text rest h) = spelled _ e _ _ h
  select_spelled _ _ _ (by_part l r text more rest h g) = tt
  select_spelled _ _ _ (by_part_up b n text more rest h g) = spelled _ b _ _ h
  select_spelled _ _ _ (by_part_down b n text more rest h g) = spelled _ b _ _ h

  selects_spelled : (x : Selects) (text rest : List Token) → AreSelects x text rest → SelectsAre AnyName x
  selects_spelled _ _ _ (no_select rest) = tt
  selects_spelled _ _ _ (one_select s text rest h) = select_spelled s _ _ h
  selects_spelled _ _ _ (two_selects s t text more rest h g) = (select_spelled s _ _ h, select_spelled t _ _ g)
