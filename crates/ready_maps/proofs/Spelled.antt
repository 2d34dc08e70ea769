-- Expressions that are spelled by tokens with sizes are solid.
use Rattle.std.proofs.Common.{◌≡◌, ℕ, suc, ◌^◌, ◌<◌, ◌≤◌, ◌%◌, Bool, true, false, cond, List, [], ◌∷◌, Option, Some, None, refl, subst, arith, mod-lt, pow_pos, pow_mono}
use Rattle.std.specs.Prelude.{codes, ◌||◌, ◌==◌}
use Prim.Native.Char.{code}
use Rattle.verilog_text.specs.Token.{Token, Mark, word, system, decimal, based, mark, left_parenthesis, right_parenthesis, left_bracket, right_bracket, left_brace, right_brace, comma, colon, question, plus_colon, minus_colon, plus, minus, tilde, exclamation, ampersand, tilde_ampersand, bar, tilde_bar, caret, tilde_caret, caret_tilde, double_bar, double_ampersand, double_equals, triple_equals, exclamation_equals, exclamation_double_equals, less, less_equals, greater, greater_equals, double_less, triple_less, double_greater, triple_greater, star, slash, percent, double_star}
use Rattle.verilog_trees.specs.Syntax.{Number, Expression, Expressions, Select, Selects}
use Rattle.verilog_text.specs.Spelling.{digits_from, digit_value, kept_width, base_of, decimal_value, width_of_size, number_in_base, behind_sign, based_number, IsNumber, plain, unsized, of_size, prefix_of, Operator, operator_of, IsExpression, tighter, chosen, joined, prefixed, a_number, a_name, bracketed, concatenated, replicated, made_signed, made_unsigned, AreExpressions, last_one, and_more, IsSelect, by_index, by_part, by_part_up, by_part_down, AreSelects, no_select, one_select, two_selects}
use Rattle.ready_maps.specs.Solid.{IsSolidNumber, AreSome, IsSolid, AreSolid, IsSolidSelect, AreSolidSelects, AreSized}

-- What was spelled is so, and what is left are tokens with sizes.
pub record Leaves (P : Type 0) (rest : List Token) : Type 0 where
  pub is : P
  pub sized : AreSized rest

behind : (t : Token) (ts : List Token) → AreSized (t ∷ ts) → AreSized ts
behind t ts l = l.1

-- ---- numbers

sign_width : (size : Option ℕ) (signed : Bool) (text : List ℕ) → (behind_sign size signed text).width ≡ width_of_size size
sign_width size signed [] = refl
sign_width size signed (b ∷ digits) = refl

based_width : (size : Option ℕ) (text : List ℕ) → (based_number size text).width ≡ width_of_size size
based_width size [] = refl
based_width size (q ∷ []) = refl
based_width size (q ∷ b ∷ text) = by (b == code "s" || b == code "S")
  where
    by : (t : Bool) → (cond t (behind_sign size true text) (behind_sign size false (b ∷ text))).width ≡ width_of_size size
    by true = sign_width size true text
    by false = refl

abbrev Fits : Number → Type 0
Fits k = k.value < 2 ^ k.width

in_base : (size : Option ℕ) (signed : Bool) (base : ℕ) (digits : List ℕ) → Fits (number_in_base size signed base digits)
in_base size signed base digits =
    let w = width_of_size size in
    let kept : kept_width w ≤ w = omega arith in
    let more : 2 ^ kept_width w ≤ 2 ^ w = pow_mono kept in
    let cut : digits_from base digit_value 0 digits % 2 ^ kept_width w < 2 ^ kept_width w = mod-lt (digits_from base digit_value 0 digits) (pow_pos (kept_width w)) in
    omega (arith, more, cut)

sign_fits : (size : Option ℕ) (signed : Bool) (text : List ℕ) → Fits (behind_sign size signed text)
sign_fits size signed [] = in_base size signed 10 []
sign_fits size signed (b ∷ digits) = in_base size signed (base_of b) digits

based_fits : (size : Option ℕ) (text : List ℕ) → Fits (based_number size text)
based_fits size [] = sign_fits size false []
based_fits size (q ∷ []) = sign_fits size false []
based_fits size (q ∷ b ∷ text) = by (b == code "s" || b == code "S")
  where
    by : (t : Bool) → Fits (cond t (behind_sign size true text) (behind_sign size false (b ∷ text)))
    by true = sign_fits size true text
    by false = sign_fits size false (b ∷ text)

value_fits : (n : Number) (text rest : List Token) → IsNumber n text rest → n.value < 2 ^ n.width
value_fits _ _ _ (plain text rest) = mod-lt (decimal_value text) (pow_pos 32)
value_fits _ _ _ (unsized text rest) = based_fits None text
value_fits _ _ _ (of_size size text rest) = based_fits (Some (decimal_value size)) text

number_solid : (n : Number) (text rest : List Token) → IsNumber n text rest → AreSized text → Leaves (IsSolidNumber n) rest
number_solid _ _ _ (plain text rest) l =
    record { is = record { some_bits = omega arith; value_fits = value_fits _ (decimal text ∷ rest) rest (plain text rest) }; sized = behind (decimal text) rest l }
number_solid _ _ _ (unsized text rest) l =
    let w = based_width None text in
    record { is = record { some_bits = omega (arith, w); value_fits = value_fits _ (based text ∷ rest) rest (unsized text rest) }; sized = behind (based text) rest l }
number_solid _ _ _ (of_size size text rest) l =
    record {
      is = record { some_bits = l.0; value_fits = value_fits _ (decimal size ∷ based text ∷ rest) rest (of_size size text rest) };
      sized = behind (based text) rest (behind (decimal size) (based text ∷ rest) l);
    }

-- ---- operators

abbrev JoinsSolid : Option Operator → Type 0
JoinsSolid None = Unit {0}
JoinsSolid (Some o) = (a b : Expression) → IsSolid a → IsSolid b → IsSolid (o.joins a b)

all_join : (m : Mark) → JoinsSolid (operator_of m)
all_join double_bar = λ a b p q. (p, q)
all_join double_ampersand = λ a b p q. (p, q)
all_join bar = λ a b p q. (p, q)
all_join caret = λ a b p q. (p, q)
all_join caret_tilde = λ a b p q. (p, q)
all_join tilde_caret = λ a b p q. (p, q)
all_join ampersand = λ a b p q. (p, q)
all_join double_equals = λ a b p q. (p, q)
all_join triple_equals = λ a b p q. (p, q)
all_join exclamation_equals = λ a b p q. (p, q)
all_join exclamation_double_equals = λ a b p q. (p, q)
all_join less = λ a b p q. (p, q)
all_join less_equals = λ a b p q. (p, q)
all_join greater = λ a b p q. (p, q)
all_join greater_equals = λ a b p q. (p, q)
all_join double_less = λ a b p q. (p, q)
all_join triple_less = λ a b p q. (p, q)
all_join double_greater = λ a b p q. (p, q)
all_join triple_greater = λ a b p q. (p, q)
all_join plus = λ a b p q. (p, q)
all_join minus = λ a b p q. (p, q)
all_join star = λ a b p q. (p, q)
all_join slash = λ a b p q. (p, q)
all_join percent = λ a b p q. (p, q)
all_join double_star = λ a b p q. (p, q)
all_join _ = tt

operator_solid : (m : Mark) (o : Operator) → operator_of m ≡ Some o → (a b : Expression) → IsSolid a → IsSolid b → IsSolid (o.joins a b)
operator_solid m o known = subst JoinsSolid known (all_join m)

abbrev PrefixSolid : Option (Expression → Expression) → Type 0
PrefixSolid None = Unit {0}
PrefixSolid (Some f) = (a : Expression) → IsSolid a → IsSolid (f a)

all_prefix : (m : Mark) → PrefixSolid (prefix_of m)
all_prefix plus = λ a p. p
all_prefix minus = λ a p. p
all_prefix tilde = λ a p. p
all_prefix exclamation = λ a p. p
all_prefix ampersand = λ a p. p
all_prefix tilde_ampersand = λ a p. p
all_prefix bar = λ a p. p
all_prefix tilde_bar = λ a p. p
all_prefix caret = λ a p. p
all_prefix tilde_caret = λ a p. p
all_prefix caret_tilde = λ a p. p
all_prefix _ = tt

prefix_solid : (m : Mark) (f : Expression → Expression) → prefix_of m ≡ Some f → (a : Expression) → IsSolid a → IsSolid (f a)
prefix_solid m f known = subst PrefixSolid known (all_prefix m)

-- ---- expressions

mutual
  pub solid : (k : ℕ) (e : Expression) (text rest : List Token) → IsExpression k e text rest → AreSized text → Leaves (IsSolid e) rest
  solid _ _ _ _ (tighter k e text rest d) l = solid (suc k) e text rest d l
  solid _ _ _ _ (chosen c x y text value other rest dc dx dy) l =
      let a = solid 1 c text (mark question ∷ value) dc l in
      let b = solid 0 x value (mark colon ∷ other) dx (behind (mark question) value a.sized) in
      let d = solid 0 y other rest dy (behind (mark colon) other b.sized) in
      record { is = (a.is, b.is, d.is); sized = d.sized }
  solid _ _ _ _ (joined m o a b text more rest known da db) l =
      let x = solid o.level a text (mark m ∷ more) da l in
      let y = solid (suc o.level) b more rest db (behind (mark m) more x.sized) in
      record { is = operator_solid m o known a b x.is y.is; sized = y.sized }
  solid _ _ _ _ (prefixed m f a text rest known d) l =
      let x = solid 12 a text rest d (behind (mark m) text l) in
      record { is = prefix_solid m f known a x.is; sized = x.sized }
  solid _ _ _ _ (a_number n text rest d) l = number_solid n text rest d l
  solid _ _ _ _ (a_name n s text rest free d) l =
      let x = selects_solid s text rest d (behind (word n) text l) in
      record { is = x.is; sized = x.sized }
  solid _ _ _ _ (bracketed e text rest d) l =
      let x = solid 0 e text (mark right_parenthesis ∷ rest) d (behind (mark left_parenthesis) text l) in
      record { is = x.is; sized = behind (mark right_parenthesis) rest x.sized }
  solid _ _ _ _ (concatenated es text rest d) l =
      let x = parts_solid es text (mark right_brace ∷ rest) d (behind (mark left_brace) text l) in
      record { is = (x.is.0, x.is.1); sized = behind (mark right_brace) rest x.sized }
  solid _ _ _ _ (replicated n es text parts rest dn d) l =
      let a = solid 0 n text (mark left_brace ∷ parts) dn (behind (mark left_brace) text l) in
      let x = parts_solid es parts (mark right_brace ∷ mark right_brace ∷ rest) d (behind (mark left_brace) parts a.sized) in
      record { is = (a.is, x.is.0, x.is.1); sized = behind (mark right_brace) rest (behind (mark right_brace) (mark right_brace ∷ rest) x.sized) }
  solid _ _ _ _ (made_signed e text rest d) l =
      let x = solid 0 e text (mark right_parenthesis ∷ rest) d (behind (mark left_parenthesis) text (behind (system (codes "$signed")) (mark left_parenthesis ∷ text) l)) in
      record { is = x.is; sized = behind (mark right_parenthesis) rest x.sized }
  solid _ _ _ _ (made_unsigned e text rest d) l =
      let x = solid 0 e text (mark right_parenthesis ∷ rest) d (behind (mark left_parenthesis) text (behind (system (codes "$unsigned")) (mark left_parenthesis ∷ text) l)) in
      record { is = x.is; sized = behind (mark right_parenthesis) rest x.sized }

  pub parts_solid : (es : Expressions) (text rest : List Token) → AreExpressions es text rest → AreSized text → Leaves (AreSome es × AreSolid es) rest
  parts_solid _ _ _ (last_one e text rest d) l =
      let x = solid 0 e text rest d l in
      record { is = (tt, (x.is, tt)); sized = x.sized }
  parts_solid _ _ _ (and_more e es text more rest d ds) l =
      let x = solid 0 e text (mark comma ∷ more) d l in
      let y = parts_solid es more rest ds (behind (mark comma) more x.sized) in
      record { is = (tt, (x.is, y.is.1)); sized = y.sized }

  select_solid : (s : Select) (text rest : List Token) → IsSelect s text rest → AreSized text → Leaves (IsSolidSelect s) rest
  select_solid _ _ _ (by_index e text rest d) l =
      let x = solid 0 e text (mark right_bracket ∷ rest) d (behind (mark left_bracket) text l) in
      record { is = x.is; sized = behind (mark right_bracket) rest x.sized }
  select_solid _ _ _ (by_part a b text more rest da db) l =
      let x = solid 0 a text (mark colon ∷ more) da (behind (mark left_bracket) text l) in
      let y = solid 0 b more (mark right_bracket ∷ rest) db (behind (mark colon) more x.sized) in
      record { is = (x.is, y.is); sized = behind (mark right_bracket) rest y.sized }
  select_solid _ _ _ (by_part_up a b text more rest da db) l =
      let x = solid 0 a text (mark plus_colon ∷ more) da (behind (mark left_bracket) text l) in
      let y = solid 0 b more (mark right_bracket ∷ rest) db (behind (mark plus_colon) more x.sized) in
      record { is = (x.is, y.is); sized = behind (mark right_bracket) rest y.sized }
  select_solid _ _ _ (by_part_down a b text more rest da db) l =
      let x = solid 0 a text (mark minus_colon ∷ more) da (behind (mark left_bracket) text l) in
      let y = solid 0 b more (mark right_bracket ∷ rest) db (behind (mark minus_colon) more x.sized) in
      record { is = (x.is, y.is); sized = behind (mark right_bracket) rest y.sized }

  pub selects_solid : (s : Selects) (text rest : List Token) → AreSelects s text rest → AreSized text → Leaves (AreSolidSelects s) rest
  selects_solid _ _ _ (no_select rest) l = record { is = tt; sized = l }
  selects_solid _ _ _ (one_select s text rest d) l = select_solid s text rest d l
  selects_solid _ _ _ (two_selects s t text more rest d e) l =
      let x = select_solid s text more d l in
      let y = select_solid t more rest e x.sized in
      record { is = (x.is, y.is); sized = y.sized }
