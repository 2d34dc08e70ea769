-- Whole expressions and selects: what is read is spelled so, and what is spelled so is read, however deep it is.
use Rattle.std.proofs.Common.{◌≡◌, ℕ, suc, ◌+◌, ◌<◌, ◌≤◌, List, ◌∷◌, length, Some, arith}
use Rattle.verilog_text.specs.Token.{right_parenthesis, right_bracket, left_brace, right_brace, comma, colon, question, Token, mark}
use Rattle.verilog_trees.specs.Syntax.{Expression, Expressions, Select, Selects}
use Rattle.verilog_text.specs.Spelling.{IsExpression, tighter, chosen, joined, prefixed, a_number, a_name, bracketed, concatenated, replicated, made_signed, made_unsigned, AreExpressions, last_one, and_more, IsSelect, by_index, by_part, by_part_up, by_part_down, AreSelects, no_select, one_select, two_selects}
use Rattle.v_expr.specs.Reading.{expression_at}
use Rattle.v_expr.specs.Ending.{Ends, nesting, nesting_of_parts, nesting_of_select, nesting_of_selects}
use Rattle.v_expr.specs.Whole.{whole_at, whole_selects_at}
use Rattle.v_expr.proofs.Repeat.{Shrinks}
use Rattle.v_expr.proofs.Spelled.{Spells, selects_spelled, expression_spelled}
use Rattle.v_expr.proofs.Grow.{shrinks, longer}
use Rattle.v_expr.proofs.Again.{expression_again, selects_again}

mutual
  -- each level of nesting takes a token
  shallow : (k : ℕ) (e : Expression) (text rest : List Token) (d : IsExpression k e text rest) → nesting d + length rest < length text
  shallow _ _ _ _ (tighter k e text rest d) = shallow (suc k) e text rest d
  shallow _ _ _ _ (chosen c x y text value other rest dc dx dy) =
      omega (arith, shallow 1 c text (mark question ∷ value) dc, shallow 0 x value (mark colon ∷ other) dx, shallow 0 y other rest dy)
  shallow _ _ _ _ (joined m o a b text more rest known da db) =
      omega (arith, shallow o.level a text (mark m ∷ more) da, shallow (suc o.level) b more rest db)
  shallow _ _ _ _ (prefixed m f a text rest known d) = omega (arith, shallow 12 a text rest d)
  shallow _ _ _ _ (a_number n text rest d) = omega (arith, longer 13 _ text rest (a_number n text rest d))
  shallow _ _ _ _ (a_name n s text rest named d) = omega (arith, selects_shallow s text rest d)
  shallow _ _ _ _ (bracketed e text rest d) = omega (arith, shallow 0 e text (mark right_parenthesis ∷ rest) d)
  shallow _ _ _ _ (concatenated es text rest d) = omega (arith, parts_shallow es text (mark right_brace ∷ rest) d)
  shallow _ _ _ _ (replicated n es text parts rest dn d) =
      omega (arith, shallow 0 n text (mark left_brace ∷ parts) dn, parts_shallow es parts (mark right_brace ∷ mark right_brace ∷ rest) d)
  shallow _ _ _ _ (made_signed e text rest d) = omega (arith, shallow 0 e text (mark right_parenthesis ∷ rest) d)
  shallow _ _ _ _ (made_unsigned e text rest d) = omega (arith, shallow 0 e text (mark right_parenthesis ∷ rest) d)

  parts_shallow : (es : Expressions) (text rest : List Token) (d : AreExpressions es text rest) → nesting_of_parts d + length rest < length text
  parts_shallow _ _ _ (last_one e text rest d) = shallow 0 e text rest d
  parts_shallow _ _ _ (and_more e es text more rest d ds) = omega (arith, shallow 0 e text (mark comma ∷ more) d, parts_shallow es more rest ds)

  select_shallow : (s : Select) (text rest : List Token) (d : IsSelect s text rest) → nesting_of_select d + length rest < length text
  select_shallow _ _ _ (by_index e text rest d) = omega (arith, shallow 0 e text (mark right_bracket ∷ rest) d)
  select_shallow _ _ _ (by_part l r text more rest dl dr) = omega (arith, shallow 0 l text _ dl, shallow 0 r more (mark right_bracket ∷ rest) dr)
  select_shallow _ _ _ (by_part_up l r text more rest dl dr) = omega (arith, shallow 0 l text _ dl, shallow 0 r more (mark right_bracket ∷ rest) dr)
  select_shallow _ _ _ (by_part_down l r text more rest dl dr) = omega (arith, shallow 0 l text _ dl, shallow 0 r more (mark right_bracket ∷ rest) dr)

  selects_shallow : (s : Selects) (text rest : List Token) (d : AreSelects s text rest) → nesting_of_selects d + length rest ≤ length text
  selects_shallow _ _ _ (no_select rest) = omega arith
  selects_shallow _ _ _ (one_select s text rest d) = omega (arith, select_shallow s text rest d)
  selects_shallow _ _ _ (two_selects s t text more rest d e) = omega (arith, select_shallow s text more d, select_shallow t more rest e)

pub whole_spelled : Spells whole_at
unfolding whole_at
whole_spelled ts y read = expression_spelled (suc (length ts)) ts y read

pub whole_again : (e : Expression) (text rest : List Token) → IsExpression 0 e text rest → Ends 0 rest → whole_at text ≡ Some (e, rest)
unfolding whole_at
whole_again e text rest d ends = expression_again (length text) e text rest d (omega (arith, shallow 0 e text rest d)) ends

-- reading one takes something
pub whole_shrinks : Shrinks whole_at
whole_shrinks = shrinks 0 whole_at whole_spelled

pub whole_selects_spelled : (ts : List Token) (y : Selects × List Token) → whole_selects_at ts ≡ Some y → AreSelects y.0 ts y.1
unfolding whole_selects_at
whole_selects_spelled ts y read = selects_spelled (expression_at (length ts)) (expression_spelled (length ts)) ts y read

pub whole_selects_again : (k : ℕ) (s : Selects) (text rest : List Token) → AreSelects s text rest → Ends k rest → whole_selects_at text ≡ Some (s, rest)
unfolding whole_selects_at
whole_selects_again k s text rest d ends = selects_again (length text) k s text rest d (omega (arith, selects_shallow s text rest d)) ends
