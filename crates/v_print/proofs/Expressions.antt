-- A printable expression is spelled by its printed tokens.
use Rattle.std.proofs.Common.{◌≡◌, ℕ, zero, suc, ◌+◌, ◌-◌, ◌≤◌, Bool, true, false, List, ◌∷◌, Some, refl, subst, arith}
use Rattle.std.specs.Prelude.{nat_lt, nat_le}
use Rattle.std.proofs.lemmas.Bool.{ltb-false, leb-false}
use Rattle.verilog_text.specs.Token.{Mark, left_parenthesis, right_parenthesis, right_bracket, left_brace, right_brace, comma, colon, question, plus_colon, minus_colon, double_star, Token, mark}
use Rattle.verilog_trees.specs.Syntax as tree
use Rattle.verilog_trees.specs.Syntax.{UnaryOperator, ReductionOperator, BinaryOperator, ShiftOperator, ComparisonOperator, LogicalOperator, Expression, Expressions, no_expressions, expression, Select, Selects, whole, one, two}
use Rattle.verilog_text.specs.Spelling.{prefix_of, operator_of, IsExpression, tighter, chosen, joined, prefixed, a_number, a_name, bracketed as in_brackets, concatenated, replicated, made_signed, made_unsigned, AreExpressions, last_one, and_more, IsSelect, by_index, by_part, by_part_up, by_part_down, AreSelects, no_select, one_select, two_selects}
use Rattle.v_print.specs.Spelled.{unary_mark, reduction_mark, binary_mark, binary_level, shift_mark, comparison_mark, comparison_level, logical_mark, logical_level, level_of, bracketed, joined_before, number_before, bare, bare_parts, bare_select, bare_selects}
use Rattle.v_print.specs.Printable.{AreSome, IsPrintable, ArePrintable, IsPrintableSelect, ArePrintableSelects}
use Rattle.v_print.proofs.Numbers.{number_spelled}

-- ---- levels

descend : (n k j : ℕ) (e : Expression) (text rest : List Token) → j ≡ n + k → IsExpression j e text rest → IsExpression k e text rest
descend zero k j e text rest s d = let same : j ≡ k = omega (arith, s) in subst (λ i. IsExpression i e text rest) same d
descend (suc n) k j e text rest s d =
    let same : j ≡ suc (n + k) = omega (arith, s) in
    descend n k (n + k) e text rest refl (tighter (n + k) e text rest (subst (λ i. IsExpression i e text rest) same d))

lower : (k j : ℕ) (e : Expression) (text rest : List Token) → k ≤ j → IsExpression j e text rest → IsExpression k e text rest
lower k j e text rest h d = descend (j - k) k j e text rest (omega (arith, h)) d

-- what is spelled so in front of any tokens
abbrev IsSpelled : ℕ → Expression → (List Token → List Token) → Type 0
IsSpelled k e f = (r : List Token) → IsExpression k e (f r) r

abbrev Wholly : Expression → (List Token → List Token) → Type 0
Wholly e f = (r : List Token) → IsExpression 0 e (f r) r

pub whole_of : (l : ℕ) (e : Expression) (f : List Token → List Token) → IsSpelled l e f → IsSpelled 0 e f
whole_of l e f d r = lower 0 l e (f r) r (omega arith) (d r)

in_brackets_of : (l k : ℕ) (e : Expression) (f : List Token → List Token) → k ≤ 13 → IsSpelled l e f → (r : List Token)
    → IsExpression k e (mark left_parenthesis ∷ f (mark right_parenthesis ∷ r)) r
in_brackets_of l k e f h d r =
    lower k 13 e (mark left_parenthesis ∷ f (mark right_parenthesis ∷ r)) r h
    (in_brackets e (f (mark right_parenthesis ∷ r)) r (whole_of l e f d (mark right_parenthesis ∷ r)))

-- an operand at a level, in brackets where its own is below it
operand : (b : Bool) (l k : ℕ) (e : Expression) (f : List Token → List Token) → (b ≡ false → k ≤ l) → k ≤ 13 → IsSpelled l e f → IsSpelled k e (bracketed b f)
operand true l k e f h small d r = in_brackets_of l k e f small d r
operand false l k e f h small d r = lower k l e (f r) r (h refl) (d r)

left_operand : (l k : ℕ) (e : Expression) (f : List Token → List Token) → k ≤ 13 → IsSpelled l e f → IsSpelled k e (bracketed (nat_lt l k) f)
left_operand l k e f small d = operand (nat_lt l k) l k e f (ltb-false l k) small d

right_operand : (l k : ℕ) (e : Expression) (f : List Token → List Token) → suc k ≤ 13 → IsSpelled l e f → IsSpelled (suc k) e (bracketed (nat_le l k) f)
right_operand l k e f small d = operand (nat_le l k) l (suc k) e f (λ h. leb-false l k h) small d

-- two operands and an operator
joint : (k lx ly : ℕ) (x y : Expression) (f g : List Token → List Token) (o : Expression → Expression → Expression) (m : Mark) → operator_of m ≡ Some (record { level = k; joins = o }) → suc k ≤ 13
    → IsSpelled lx x f → IsSpelled ly y g → IsSpelled k (o x y) (joined_before k m lx f ly g)
joint k lx ly x y f g o m known small dx dy r =
    let more = bracketed (nat_le ly k) g r in
    joined m (record { level = k; joins = o }) x y (joined_before k m lx f ly g r) more r known
    (left_operand lx k x f (omega (arith, small)) dx (mark m ∷ more)) (right_operand ly k y g small dy r)

-- ---- operators

unary_known : (o : UnaryOperator) → prefix_of (unary_mark o) ≡ Some (tree.unary o)
unary_known tree.plus = refl
unary_known tree.minus = refl
unary_known tree.complement = refl

reduction_known : (o : ReductionOperator) → prefix_of (reduction_mark o) ≡ Some (tree.reduction o)
reduction_known tree.is_zero = refl
reduction_known tree.all_ones = refl
reduction_known tree.not_all_ones = refl
reduction_known tree.any_one = refl
reduction_known tree.no_one = refl
reduction_known tree.odd_ones = refl
reduction_known tree.even_ones = refl

binary_known : (o : BinaryOperator) → operator_of (binary_mark o) ≡ Some (record { level = binary_level o; joins = tree.binary o })
binary_known tree.add = refl
binary_known tree.subtract = refl
binary_known tree.multiply = refl
binary_known tree.divide = refl
binary_known tree.modulo = refl
binary_known tree.bitwise_and = refl
binary_known tree.bitwise_or = refl
binary_known tree.bitwise_xor = refl
binary_known tree.bitwise_xnor = refl

binary_small : (o : BinaryOperator) → suc (binary_level o) ≤ 13
binary_small tree.add = omega arith
binary_small tree.subtract = omega arith
binary_small tree.multiply = omega arith
binary_small tree.divide = omega arith
binary_small tree.modulo = omega arith
binary_small tree.bitwise_and = omega arith
binary_small tree.bitwise_or = omega arith
binary_small tree.bitwise_xor = omega arith
binary_small tree.bitwise_xnor = omega arith

shift_known : (o : ShiftOperator) → operator_of (shift_mark o) ≡ Some (record { level = 8; joins = tree.shift o })
shift_known tree.left = refl
shift_known tree.right = refl
shift_known tree.arithmetic_right = refl

comparison_known : (o : ComparisonOperator) → operator_of (comparison_mark o) ≡ Some (record { level = comparison_level o; joins = tree.comparison o })
comparison_known tree.less = refl
comparison_known tree.less_or_equal = refl
comparison_known tree.greater = refl
comparison_known tree.greater_or_equal = refl
comparison_known tree.equal = refl
comparison_known tree.not_equal = refl

comparison_small : (o : ComparisonOperator) → suc (comparison_level o) ≤ 13
comparison_small tree.less = omega arith
comparison_small tree.less_or_equal = omega arith
comparison_small tree.greater = omega arith
comparison_small tree.greater_or_equal = omega arith
comparison_small tree.equal = omega arith
comparison_small tree.not_equal = omega arith

logical_known : (o : LogicalOperator) → operator_of (logical_mark o) ≡ Some (record { level = logical_level o; joins = tree.logical o })
logical_known tree.both = refl
logical_known tree.either = refl

logical_small : (o : LogicalOperator) → suc (logical_level o) ≤ 13
logical_small tree.both = omega arith
logical_small tree.either = omega arith

below_13 : 12 ≤ 13
below_13 = omega arith

-- ---- expressions

mutual
  pub bare_spelled : (e : Expression) → IsPrintable e → (r : List Token) → IsExpression (level_of e) e (bare e r) r
  bare_spelled (tree.number n) p r = a_number n (number_before n r) r (number_spelled n p r)
  bare_spelled (tree.name n s) p r = a_name n s (bare_selects s r) r p.0.is_free (selects_spelled s p.1 r)
  bare_spelled (tree.concatenation es) p r = concatenated es (bare_parts false es (mark right_brace ∷ r)) r (parts_spelled es p.0 p.1 (mark right_brace ∷ r))
  bare_spelled (tree.replication k es) p r =
      replicated k es (bare k (mark left_brace ∷ bare_parts false es (mark right_brace ∷ mark right_brace ∷ r))) (bare_parts false es (mark right_brace ∷ mark right_brace ∷ r)) r
      (whole_of (level_of k) k (bare k) (bare_spelled k p.0) (mark left_brace ∷ bare_parts false es (mark right_brace ∷ mark right_brace ∷ r)))
      (parts_spelled es p.1 p.2 (mark right_brace ∷ mark right_brace ∷ r))
  bare_spelled (tree.as_signed x) p r = made_signed x (bare x (mark right_parenthesis ∷ r)) r (whole_of (level_of x) x (bare x) (bare_spelled x p) (mark right_parenthesis ∷ r))
  bare_spelled (tree.as_unsigned x) p r = made_unsigned x (bare x (mark right_parenthesis ∷ r)) r (whole_of (level_of x) x (bare x) (bare_spelled x p) (mark right_parenthesis ∷ r))
  bare_spelled (tree.unary o x) p r =
      prefixed (unary_mark o) (tree.unary o) x (bracketed (nat_lt (level_of x) 12) (bare x) r) r (unary_known o) (left_operand (level_of x) 12 x (bare x) below_13 (bare_spelled x p) r)
  bare_spelled (tree.reduction o x) p r =
      prefixed (reduction_mark o) (tree.reduction o) x (bracketed (nat_lt (level_of x) 12) (bare x) r) r (reduction_known o) (left_operand (level_of x) 12 x (bare x) below_13 (bare_spelled x p) r)
  bare_spelled (tree.binary o x y) p r =
      joint (binary_level o) (level_of x) (level_of y) x y (bare x) (bare y) (tree.binary o) (binary_mark o) (binary_known o) (binary_small o) (bare_spelled x p.0) (bare_spelled y p.1) r
  bare_spelled (tree.shift o x y) p r =
      joint 8 (level_of x) (level_of y) x y (bare x) (bare y) (tree.shift o) (shift_mark o) (shift_known o) (omega arith) (bare_spelled x p.0) (bare_spelled y p.1) r
  bare_spelled (tree.power x y) p r =
      joint 11 (level_of x) (level_of y) x y (bare x) (bare y) tree.power double_star refl (omega arith) (bare_spelled x p.0) (bare_spelled y p.1) r
  bare_spelled (tree.comparison o x y) p r =
      joint (comparison_level o) (level_of x) (level_of y) x y (bare x) (bare y) (tree.comparison o) (comparison_mark o) (comparison_known o) (comparison_small o) (bare_spelled x p.0) (bare_spelled y p.1) r
  bare_spelled (tree.logical o x y) p r =
      joint (logical_level o) (level_of x) (level_of y) x y (bare x) (bare y) (tree.logical o) (logical_mark o) (logical_known o) (logical_small o) (bare_spelled x p.0) (bare_spelled y p.1) r
  bare_spelled (tree.conditional c x y) p r =
      chosen c x y (bracketed (nat_lt (level_of c) 1) (bare c) (mark question ∷ bare x (mark colon ∷ bare y r))) (bare x (mark colon ∷ bare y r)) (bare y r) r
      (left_operand (level_of c) 1 c (bare c) (omega arith) (bare_spelled c p.0) (mark question ∷ bare x (mark colon ∷ bare y r)))
      (whole_of (level_of x) x (bare x) (bare_spelled x p.1) (mark colon ∷ bare y r))
      (whole_of (level_of y) y (bare y) (bare_spelled y p.2) r)

  pub parts_spelled : (es : Expressions) → AreSome es → ArePrintable es → (r : List Token) → AreExpressions es (bare_parts false es r) r
  parts_spelled no_expressions some p r = absurd some
  parts_spelled (expression e no_expressions) some p r = last_one e (bare e r) r (whole_of (level_of e) e (bare e) (bare_spelled e p.0) r)
  parts_spelled (expression e (expression d es)) some p r =
      and_more e (expression d es) (bare_parts false (expression e (expression d es)) r) (bare_parts false (expression d es) r) r
      (whole_of (level_of e) e (bare e) (bare_spelled e p.0) (mark comma ∷ bare_parts false (expression d es) r)) (parts_spelled (expression d es) tt p.1 r)

  pub select_spelled : (s : Select) → IsPrintableSelect s → (r : List Token) → IsSelect s (bare_select s r) r
  select_spelled (tree.index e) p r = by_index e (bare e (mark right_bracket ∷ r)) r (whole_of (level_of e) e (bare e) (bare_spelled e p) (mark right_bracket ∷ r))
  select_spelled (tree.part x y) p r =
      by_part x y (bare x (mark colon ∷ bare y (mark right_bracket ∷ r))) (bare y (mark right_bracket ∷ r)) r
      (whole_of (level_of x) x (bare x) (bare_spelled x p.0) (mark colon ∷ bare y (mark right_bracket ∷ r))) (whole_of (level_of y) y (bare y) (bare_spelled y p.1) (mark right_bracket ∷ r))
  select_spelled (tree.part_up x y) p r =
      by_part_up x y (bare x (mark plus_colon ∷ bare y (mark right_bracket ∷ r))) (bare y (mark right_bracket ∷ r)) r
      (whole_of (level_of x) x (bare x) (bare_spelled x p.0) (mark plus_colon ∷ bare y (mark right_bracket ∷ r))) (whole_of (level_of y) y (bare y) (bare_spelled y p.1) (mark right_bracket ∷ r))
  select_spelled (tree.part_down x y) p r =
      by_part_down x y (bare x (mark minus_colon ∷ bare y (mark right_bracket ∷ r))) (bare y (mark right_bracket ∷ r)) r
      (whole_of (level_of x) x (bare x) (bare_spelled x p.0) (mark minus_colon ∷ bare y (mark right_bracket ∷ r))) (whole_of (level_of y) y (bare y) (bare_spelled y p.1) (mark right_bracket ∷ r))

  pub selects_spelled : (s : Selects) → ArePrintableSelects s → (r : List Token) → AreSelects s (bare_selects s r) r
  selects_spelled whole p r = no_select r
  selects_spelled (one s) p r = one_select s (bare_select s r) r (select_spelled s p r)
  selects_spelled (two s t) p r = two_selects s t (bare_select s (bare_select t r)) (bare_select t r) r (select_spelled s p.0 (bare_select t r)) (select_spelled t p.1 r)
