-- The tokens of a printed expression, in front of those that follow: a bracket exactly where an operator's level asks for it.
use Prim.Native.Char.{code}
use Rattle.std.specs.Prelude.{ℕ, zero, suc, ◌/◌, ◌%◌, ◌^◌, Bool, true, false, cond, not, ◌&&◌, ◌||◌, ◌==◌, nat_lt, nat_le, List, [], ◌∷◌, ◌++◌, codes}
use Rattle.std.specs.Fmt.{decimal as numeral}
use Rattle.verilog_text.specs.Token.{Mark, left_parenthesis, right_parenthesis, left_bracket, right_bracket, left_brace, right_brace, comma, colon, question, plus_colon, minus_colon, plus, minus, star, double_star, slash, percent, exclamation, tilde, ampersand, tilde_ampersand, bar, tilde_bar, caret, tilde_caret, double_ampersand, double_bar, less, less_equals, greater, greater_equals, double_less, double_greater, triple_greater, double_equals, exclamation_equals, Token, word, system, decimal, based, mark}
use Rattle.verilog_text.specs.Spelling.{kept_width}
use Rattle.verilog_trees.specs.Syntax as tree
use Rattle.verilog_trees.specs.Syntax.{Number, UnaryOperator, ReductionOperator, BinaryOperator, ShiftOperator, ComparisonOperator, LogicalOperator, Expression, Expressions, no_expressions, expression, Select, Selects, whole, one, two}

-- ---- numbers

abbrev pub is_plain : Number → Bool
is_plain n = not n.sized && (n.signed && (not n.has_unknown && not n.has_wild))

abbrev pub bit_digit : (value unknown wild : ℕ) → ℕ
bit_digit v u w = cond (u == 1) (code "x") (cond (w == 1) (code "?") (cond (v == 1) (code "1") (code "0")))

abbrev pub bit_of : ℕ → ℕ → ℕ
bit_of n k = n / 2 ^ k % 2

-- a digit for each of so many bits, the highest first
unfoldable pub bit_digits : (bits value unknown wild : ℕ) → List ℕ
bit_digits zero v u w = []
bit_digits (suc k) v u w = bit_digit (bit_of v k) (bit_of u k) (bit_of w k) ∷ bit_digits k v u w

-- a digit that is cut away, for each kind of digits of which the number keeps no bit
abbrev pub cut_unknown : Number → List ℕ
cut_unknown n = cond (n.has_unknown && n.unknown == 0) (code "x" ∷ []) []

abbrev pub cut_wild : Number → List ℕ
cut_wild n = cond (n.has_wild && n.wild == 0) (code "?" ∷ []) []

-- x and ? digits stand in binary, all others in decimal
abbrev pub digits_text : Number → List ℕ
digits_text n =
    cond (n.has_unknown || n.has_wild) (code "b" ∷ (cut_unknown n ++ (cut_wild n ++ bit_digits (kept_width n.width) n.value n.unknown n.wild)))
    (code "d" ∷ numeral n.value)

abbrev pub sign_text : Bool → List ℕ
sign_text signed = cond signed (code "s" ∷ []) []

abbrev pub based_text : Number → List ℕ
based_text n = code "'" ∷ (sign_text n.signed ++ digits_text n)

abbrev pub size_before : Number → List Token → List Token
size_before n r = cond n.sized (decimal (numeral n.width) ∷ r) r

unfoldable pub number_before : Number → List Token → List Token
number_before n r = cond (is_plain n) (decimal (numeral n.value) ∷ r) (size_before n (based (based_text n) ∷ r))

-- ---- operators

abbrev pub unary_mark : UnaryOperator → Mark
unary_mark tree.plus = plus
unary_mark tree.minus = minus
unary_mark tree.complement = tilde

abbrev pub reduction_mark : ReductionOperator → Mark
reduction_mark tree.is_zero = exclamation
reduction_mark tree.all_ones = ampersand
reduction_mark tree.not_all_ones = tilde_ampersand
reduction_mark tree.any_one = bar
reduction_mark tree.no_one = tilde_bar
reduction_mark tree.odd_ones = caret
reduction_mark tree.even_ones = tilde_caret

abbrev pub binary_mark : BinaryOperator → Mark
binary_mark tree.add = plus
binary_mark tree.subtract = minus
binary_mark tree.multiply = star
binary_mark tree.divide = slash
binary_mark tree.modulo = percent
binary_mark tree.bitwise_and = ampersand
binary_mark tree.bitwise_or = bar
binary_mark tree.bitwise_xor = caret
binary_mark tree.bitwise_xnor = tilde_caret

abbrev pub binary_level : BinaryOperator → ℕ
binary_level tree.add = 9
binary_level tree.subtract = 9
binary_level tree.multiply = 10
binary_level tree.divide = 10
binary_level tree.modulo = 10
binary_level tree.bitwise_and = 5
binary_level tree.bitwise_or = 3
binary_level tree.bitwise_xor = 4
binary_level tree.bitwise_xnor = 4

abbrev pub shift_mark : ShiftOperator → Mark
shift_mark tree.left = double_less
shift_mark tree.right = double_greater
shift_mark tree.arithmetic_right = triple_greater

abbrev pub comparison_mark : ComparisonOperator → Mark
comparison_mark tree.less = less
comparison_mark tree.less_or_equal = less_equals
comparison_mark tree.greater = greater
comparison_mark tree.greater_or_equal = greater_equals
comparison_mark tree.equal = double_equals
comparison_mark tree.not_equal = exclamation_equals

abbrev pub comparison_level : ComparisonOperator → ℕ
comparison_level tree.less = 7
comparison_level tree.less_or_equal = 7
comparison_level tree.greater = 7
comparison_level tree.greater_or_equal = 7
comparison_level tree.equal = 6
comparison_level tree.not_equal = 6

abbrev pub logical_mark : LogicalOperator → Mark
logical_mark tree.both = double_ampersand
logical_mark tree.either = double_bar

abbrev pub logical_level : LogicalOperator → ℕ
logical_level tree.both = 2
logical_level tree.either = 1

-- How tightly the outermost operator binds: 0 for ?:, 1 to 11 for operators between operands, 12 for prefix operators, 13 for what
-- stands alone.
abbrev pub level_of : Expression → ℕ
level_of (tree.conditional c x y) = 0
level_of (tree.logical o x y) = logical_level o
level_of (tree.binary o x y) = binary_level o
level_of (tree.comparison o x y) = comparison_level o
level_of (tree.shift o x y) = 8
level_of (tree.power x y) = 11
level_of (tree.unary o x) = 12
level_of (tree.reduction o x) = 12
level_of (tree.number n) = 13
level_of (tree.name n s) = 13
level_of (tree.concatenation es) = 13
level_of (tree.replication k es) = 13
level_of (tree.as_signed x) = 13
level_of (tree.as_unsigned x) = 13

-- ---- brackets and commas

abbrev pub opened : Bool → List Token → List Token
opened b r = cond b (mark left_parenthesis ∷ r) r

abbrev pub closed : Bool → List Token → List Token
closed b r = cond b (mark right_parenthesis ∷ r) r

abbrev pub parted : Bool → List Token → List Token
parted b r = cond b (mark comma ∷ r) r

-- in brackets, where they are wanted
abbrev pub bracketed : (wanted : Bool) → (List Token → List Token) → List Token → List Token
bracketed b f r = opened b (f (closed b r))

-- Two operands and the operator between them, which binds as tightly as k: in brackets stands the left one where it binds less tightly,
-- and the right one where it does not bind more tightly, since such operators group to the left.
abbrev pub joined_before : (k : ℕ) → Mark → (left : ℕ) → (List Token → List Token) → (right : ℕ) → (List Token → List Token) → List Token → List Token
joined_before k m left f right g r = bracketed (nat_lt left k) f (mark m ∷ bracketed (nat_le right k) g r)

-- ---- expressions

abbrev mutual
  -- without brackets round the whole
  pub bare : Expression → List Token → List Token
  bare (tree.number n) r = number_before n r
  bare (tree.name n s) r = word n ∷ bare_selects s r
  bare (tree.concatenation es) r = mark left_brace ∷ bare_parts false es (mark right_brace ∷ r)
  bare (tree.replication k es) r = mark left_brace ∷ bare k (mark left_brace ∷ bare_parts false es (mark right_brace ∷ mark right_brace ∷ r))
  bare (tree.as_signed x) r = system (codes "$signed") ∷ mark left_parenthesis ∷ bare x (mark right_parenthesis ∷ r)
  bare (tree.as_unsigned x) r = system (codes "$unsigned") ∷ mark left_parenthesis ∷ bare x (mark right_parenthesis ∷ r)
  bare (tree.unary o x) r = mark (unary_mark o) ∷ bracketed (nat_lt (level_of x) 12) (λ q. bare x q) r
  bare (tree.reduction o x) r = mark (reduction_mark o) ∷ bracketed (nat_lt (level_of x) 12) (λ q. bare x q) r
  bare (tree.binary o x y) r = joined_before (binary_level o) (binary_mark o) (level_of x) (λ q. bare x q) (level_of y) (λ q. bare y q) r
  bare (tree.shift o x y) r = joined_before 8 (shift_mark o) (level_of x) (λ q. bare x q) (level_of y) (λ q. bare y q) r
  bare (tree.power x y) r = joined_before 11 double_star (level_of x) (λ q. bare x q) (level_of y) (λ q. bare y q) r
  bare (tree.comparison o x y) r = joined_before (comparison_level o) (comparison_mark o) (level_of x) (λ q. bare x q) (level_of y) (λ q. bare y q) r
  bare (tree.logical o x y) r = joined_before (logical_level o) (logical_mark o) (level_of x) (λ q. bare x q) (level_of y) (λ q. bare y q) r
  bare (tree.conditional c x y) r = bracketed (nat_lt (level_of c) 1) (λ q. bare c q) (mark question ∷ bare x (mark colon ∷ bare y r))

  -- with a comma before each, before the first one too where something stands before it
  pub bare_parts : Bool → Expressions → List Token → List Token
  bare_parts b no_expressions r = r
  bare_parts b (expression e es) r = parted b (bare e (bare_parts true es r))

  pub bare_select : Select → List Token → List Token
  bare_select (tree.index e) r = mark left_bracket ∷ bare e (mark right_bracket ∷ r)
  bare_select (tree.part x y) r = mark left_bracket ∷ bare x (mark colon ∷ bare y (mark right_bracket ∷ r))
  bare_select (tree.part_up x y) r = mark left_bracket ∷ bare x (mark plus_colon ∷ bare y (mark right_bracket ∷ r))
  bare_select (tree.part_down x y) r = mark left_bracket ∷ bare x (mark minus_colon ∷ bare y (mark right_bracket ∷ r))

  pub bare_selects : Selects → List Token → List Token
  bare_selects whole r = r
  bare_selects (one s) r = bare_select s r
  bare_selects (two s t) r = bare_select s (bare_select t r)

-- ---- the same, opened only where a proof asks for it

unfoldable pub printed : Expression → List Token → List Token
printed e r = bare e r

unfoldable pub printed_parts : Bool → Expressions → List Token → List Token
printed_parts b es r = bare_parts b es r

unfoldable pub printed_select : Select → List Token → List Token
printed_select s r = bare_select s r

unfoldable pub printed_selects : Selects → List Token → List Token
printed_selects s r = bare_selects s r

unfoldable pub printed_level : Expression → ℕ
printed_level e = level_of e
