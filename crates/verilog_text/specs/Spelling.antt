-- The grammar: which tokens, in front of those that follow, spell each part of a Verilog source (IEEE 1364-2005, annex A).
use Prim.Native.Char.{code}
use Rattle.std.specs.Prelude.{◌≡◌, ℕ, suc, ◌+◌, ◌*◌, ◌-◌, ◌^◌, ◌%◌, Bool, true, false, cond, ◌&&◌, ◌||◌, ◌==◌, nat_le, min, List, [], ◌∷◌, codes, Option, Some, None}
use Rattle.std.specs.List.{list_any}
use Rattle.wb_values.specs.Value.{Name}
use Rattle.wb_values.specs.ReservedWords.{is_reserved}
use Rattle.verilog_text.specs.Token.{Mark, left_parenthesis, right_parenthesis, left_bracket, right_bracket, left_brace, right_brace, comma, colon, question, plus_colon, minus_colon, plus, minus, star, double_star, slash, percent, exclamation, tilde, ampersand, tilde_ampersand, bar, tilde_bar, caret, tilde_caret, caret_tilde, double_ampersand, double_bar, less, less_equals, greater, greater_equals, double_less, double_greater, triple_less, triple_greater, double_equals, exclamation_equals, triple_equals, exclamation_double_equals, Token, word, system, decimal, based, mark}
use Rattle.verilog_trees.specs.Syntax as tree
use Rattle.verilog_trees.specs.Syntax.{Number, Expression, Expressions, no_expressions, expression, Select, Selects, whole, one, two, Target, Targets, no_targets, target, CaseKind, exact_case, wild_case, Statement, Statements, no_statements, statement, CaseItems, no_items, arm, default_arm, EdgeKind, Event, Events, any_change, on_events, Range, Direction, NetKind, PortDeclaration, ParameterDeclaration, Connections, by_name, by_order, Item, Ports, no_ports, listed, declared, Module, Source}

-- an identifier is no reserved word (3.7.4)
abbrev pub IsIdentifier : Name → Type 0
IsIdentifier n = is_reserved n ≡ false

-- ---- numbers (3.5.1)

abbrev pub is_decimal_digit : ℕ → Bool
is_decimal_digit b = nat_le (code "0") b && nat_le b (code "9")

-- what a digit of any base stands for, x, z and ? for 0
abbrev pub digit_value : ℕ → ℕ
digit_value b =
    cond (is_decimal_digit b) (b - code "0") (
    cond (nat_le (code "a") b && nat_le b (code "f")) (b - (code "a" - 10)) (
    cond (nat_le (code "A") b && nat_le b (code "F")) (b - (code "A" - 10)) 0))

-- x or X; z, Z or ?
abbrev pub is_x : ℕ → Bool
is_x b = b == code "x" || b == code "X"

abbrev pub is_z : ℕ → Bool
is_z b = b == code "z" || b == code "Z" || b == code "?"

-- _ and blanks say nothing
abbrev pub is_silent : ℕ → Bool
is_silent b = b == code "_" || b == code "\\" || nat_le b (code " ")

-- A number from digits, the first the highest, by what each stands for.
abbrev pub digits_from : (base : ℕ) → (ℕ → ℕ) → ℕ → List ℕ → ℕ
digits_from base value n [] = n
digits_from base value n (b ∷ bs) = digits_from base value (cond (is_silent b) n (n * base + value b)) bs

abbrev pub decimal_value : List ℕ → ℕ
decimal_value text = digits_from 10 digit_value 0 text

abbrev pub base_of : ℕ → ℕ
base_of b =
    cond (b == code "b" || b == code "B") 2 (
    cond (b == code "o" || b == code "O") 8 (
    cond (b == code "h" || b == code "H") 16 10))

-- the bits of a digit all 1 where it is of a kind, else 0
abbrev pub filled_where : (base : ℕ) → (ℕ → Bool) → ℕ → ℕ
filled_where base is b = cond (is b) (base - 1) 0

-- how many bits a digit takes, and how many those of a text take
abbrev pub bits_of_base : ℕ → ℕ
bits_of_base base = cond (base == 2) 1 (cond (base == 8) 3 4)

abbrev pub bits_of_digits : (bits : ℕ) → List ℕ → ℕ
bits_of_digits bits [] = 0
bits_of_digits bits (b ∷ bs) = cond (is_silent b) 0 bits + bits_of_digits bits bs

-- the leftmost digit is z or ?
abbrev pub begins_with_z : List ℕ → Bool
begins_with_z [] = false
begins_with_z (b ∷ bs) = cond (is_silent b) (begins_with_z bs) (is_z b)

-- Of a number wider than 128 bits, which no accepted source has, the tree keeps so many; and of a size its value up to this.
abbrev pub kept_width : ℕ → ℕ
kept_width w = min w 128

abbrev pub greatest_size : ℕ
greatest_size = 2 ^ 64 - 1

-- the bits from the digits' up to a width are z where the leftmost digit is, else 0
abbrev pub filled_above : (bits width : ℕ) → List ℕ → ℕ
filled_above bits w digits = cond (begins_with_z digits) (2 ^ w - 2 ^ min (bits_of_digits bits digits) w) 0

abbrev pub width_of_size : Option ℕ → ℕ
width_of_size None = 32
width_of_size (Some w) = min w greatest_size

abbrev pub has_size : Option ℕ → Bool
has_size None = false
has_size (Some w) = true

-- A plain decimal has 32 bits and is signed.
abbrev pub plain_number : List ℕ → Number
plain_number text = record { width = 32; sized = false; signed = true; value = decimal_value text % 2 ^ 32; unknown = 0; wild = 0; has_unknown = false; has_wild = false }

-- Digits are cut at the left; that some digit is x, z or ? is said of all that are written.
abbrev pub number_in_base : (size : Option ℕ) → (signed : Bool) → (base : ℕ) → List ℕ → Number
number_in_base size signed base digits = record {
  width = width_of_size size;
  sized = has_size size;
  signed = signed;
  value = digits_from base digit_value 0 digits % 2 ^ kept_width (width_of_size size);
  unknown = digits_from base (filled_where base is_x) 0 digits % 2 ^ kept_width (width_of_size size);
  wild = digits_from base (filled_where base is_z) 0 digits % 2 ^ kept_width (width_of_size size)
      + filled_above (bits_of_base base) (kept_width (width_of_size size)) digits;
  has_unknown = list_any is_x digits;
  has_wild = list_any is_z digits;
}

-- from the base on
abbrev pub behind_sign : (size : Option ℕ) → (signed : Bool) → List ℕ → Number
behind_sign size signed [] = number_in_base size signed 10 []
behind_sign size signed (b ∷ digits) = number_in_base size signed (base_of b) digits

-- A based number, from its quote on: perhaps s, the base, the digits.
abbrev pub based_number : (size : Option ℕ) → List ℕ → Number
based_number size (quote ∷ b ∷ text) = cond (b == code "s" || b == code "S") (behind_sign size true text) (behind_sign size false (b ∷ text))
based_number size _ = behind_sign size false []

pub data IsNumber : Number → (text rest : List Token) → Type 0 where
  plain : (text : List ℕ) (rest : List Token) → IsNumber (plain_number text) (decimal text ∷ rest) rest
  unsized : (text : List ℕ) (rest : List Token) → IsNumber (based_number None text) (based text ∷ rest) rest
  of_size : (size text : List ℕ) (rest : List Token) → IsNumber (based_number (Some (decimal_value size)) text) (decimal size ∷ based text ∷ rest) rest

-- ---- expressions (A.8.3, 5.1)

-- + - ! ~ & ~& | ~| ^ ~^ ^~ in front of an operand
abbrev pub prefix_of : Mark → Option (Expression → Expression)
prefix_of plus = Some (tree.unary tree.plus)
prefix_of minus = Some (tree.unary tree.minus)
prefix_of tilde = Some (tree.unary tree.complement)
prefix_of exclamation = Some (tree.reduction tree.is_zero)
prefix_of ampersand = Some (tree.reduction tree.all_ones)
prefix_of tilde_ampersand = Some (tree.reduction tree.not_all_ones)
prefix_of bar = Some (tree.reduction tree.any_one)
prefix_of tilde_bar = Some (tree.reduction tree.no_one)
prefix_of caret = Some (tree.reduction tree.odd_ones)
prefix_of tilde_caret = Some (tree.reduction tree.even_ones)
prefix_of caret_tilde = Some (tree.reduction tree.even_ones)
prefix_of _ = None

-- An operator between two operands: how tightly it binds, from 1 (||) to 11 ( ** ), and what it makes of them.
pub record Operator : Type 0 where
  pub level : ℕ
  pub joins : Expression → Expression → Expression

abbrev pub operator_of : Mark → Option Operator
operator_of double_bar = Some (record { level = 1; joins = tree.logical tree.either })
operator_of double_ampersand = Some (record { level = 2; joins = tree.logical tree.both })
operator_of bar = Some (record { level = 3; joins = tree.binary tree.bitwise_or })
operator_of caret = Some (record { level = 4; joins = tree.binary tree.bitwise_xor })
operator_of caret_tilde = Some (record { level = 4; joins = tree.binary tree.bitwise_xnor })
operator_of tilde_caret = Some (record { level = 4; joins = tree.binary tree.bitwise_xnor })
operator_of ampersand = Some (record { level = 5; joins = tree.binary tree.bitwise_and })
operator_of double_equals = Some (record { level = 6; joins = tree.comparison tree.equal })
operator_of triple_equals = Some (record { level = 6; joins = tree.comparison tree.equal })
operator_of exclamation_equals = Some (record { level = 6; joins = tree.comparison tree.not_equal })
operator_of exclamation_double_equals = Some (record { level = 6; joins = tree.comparison tree.not_equal })
operator_of less = Some (record { level = 7; joins = tree.comparison tree.less })
operator_of less_equals = Some (record { level = 7; joins = tree.comparison tree.less_or_equal })
operator_of greater = Some (record { level = 7; joins = tree.comparison tree.greater })
operator_of greater_equals = Some (record { level = 7; joins = tree.comparison tree.greater_or_equal })
operator_of double_less = Some (record { level = 8; joins = tree.shift tree.left })
operator_of triple_less = Some (record { level = 8; joins = tree.shift tree.left })
operator_of double_greater = Some (record { level = 8; joins = tree.shift tree.right })
operator_of triple_greater = Some (record { level = 8; joins = tree.shift tree.arithmetic_right })
operator_of plus = Some (record { level = 9; joins = tree.binary tree.add })
operator_of minus = Some (record { level = 9; joins = tree.binary tree.subtract })
operator_of star = Some (record { level = 10; joins = tree.binary tree.multiply })
operator_of slash = Some (record { level = 10; joins = tree.binary tree.divide })
operator_of percent = Some (record { level = 10; joins = tree.binary tree.modulo })
operator_of double_star = Some (record { level = 11; joins = tree.power })
operator_of _ = None

mutual
  -- The text up to the rest spells the expression at a level: 0 for a whole one, 1 to 11 for operators between operands, 12 for
  -- prefix operators, 13 for what stands alone. Brackets may stand round any expression.
  pub data IsExpression : (level : ℕ) → Expression → (text rest : List Token) → Type 0 where
    tighter : (k : ℕ) (e : Expression) (text rest : List Token) → IsExpression (suc k) e text rest → IsExpression k e text rest
    -- a ? b : c, grouped to the right
    chosen : (c x y : Expression) (text yes no rest : List Token) → IsExpression 1 c text (mark question ∷ yes)
        → IsExpression 0 x yes (mark colon ∷ no) → IsExpression 0 y no rest → IsExpression 0 (tree.conditional c x y) text rest
    -- a + b, grouped to the left
    joined : (m : Mark) (o : Operator) (a b : Expression) (text more rest : List Token) → operator_of m ≡ Some o
        → IsExpression o.level a text (mark m ∷ more) → IsExpression (suc o.level) b more rest → IsExpression o.level (o.joins a b) text rest
    -- -a
    prefixed : (m : Mark) (f : Expression → Expression) (a : Expression) (text rest : List Token) → prefix_of m ≡ Some f
        → IsExpression 12 a text rest → IsExpression 12 (f a) (mark m ∷ text) rest
    a_number : (n : Number) (text rest : List Token) → IsNumber n text rest → IsExpression 13 (tree.number n) text rest
    a_name : (n : Name) (s : Selects) (text rest : List Token) → IsIdentifier n → AreSelects s text rest
        → IsExpression 13 (tree.name n s) (word n ∷ text) rest
    -- (a)
    bracketed : (e : Expression) (text rest : List Token) → IsExpression 0 e text (mark right_parenthesis ∷ rest)
        → IsExpression 13 e (mark left_parenthesis ∷ text) rest
    -- {a, b}
    concatenated : (es : Expressions) (text rest : List Token) → AreExpressions es text (mark right_brace ∷ rest)
        → IsExpression 13 (tree.concatenation es) (mark left_brace ∷ text) rest
    -- {n{a, b}}
    replicated : (n : Expression) (es : Expressions) (text parts rest : List Token) → IsExpression 0 n text (mark left_brace ∷ parts)
        → AreExpressions es parts (mark right_brace ∷ mark right_brace ∷ rest)
        → IsExpression 13 (tree.replication n es) (mark left_brace ∷ text) rest
    -- $signed(a), $unsigned(a)
    made_signed : (e : Expression) (text rest : List Token) → IsExpression 0 e text (mark right_parenthesis ∷ rest)
        → IsExpression 13 (tree.as_signed e) (system (codes "$signed") ∷ mark left_parenthesis ∷ text) rest
    made_unsigned : (e : Expression) (text rest : List Token) → IsExpression 0 e text (mark right_parenthesis ∷ rest)
        → IsExpression 13 (tree.as_unsigned e) (system (codes "$unsigned") ∷ mark left_parenthesis ∷ text) rest

  -- one or more, with commas between them
  pub data AreExpressions : Expressions → (text rest : List Token) → Type 0 where
    last_one : (e : Expression) (text rest : List Token) → IsExpression 0 e text rest → AreExpressions (expression e no_expressions) text rest
    and_more : (e : Expression) (es : Expressions) (text more rest : List Token) → IsExpression 0 e text (mark comma ∷ more)
        → AreExpressions es more rest → AreExpressions (expression e es) text rest

  pub data IsSelect : Select → (text rest : List Token) → Type 0 where
    by_index : (e : Expression) (text rest : List Token) → IsExpression 0 e text (mark right_bracket ∷ rest)
        → IsSelect (tree.index e) (mark left_bracket ∷ text) rest
    by_part : (l r : Expression) (text more rest : List Token) → IsExpression 0 l text (mark colon ∷ more)
        → IsExpression 0 r more (mark right_bracket ∷ rest) → IsSelect (tree.part l r) (mark left_bracket ∷ text) rest
    by_part_up : (b w : Expression) (text more rest : List Token) → IsExpression 0 b text (mark plus_colon ∷ more)
        → IsExpression 0 w more (mark right_bracket ∷ rest) → IsSelect (tree.part_up b w) (mark left_bracket ∷ text) rest
    by_part_down : (b w : Expression) (text more rest : List Token) → IsExpression 0 b text (mark minus_colon ∷ more)
        → IsExpression 0 w more (mark right_bracket ∷ rest) → IsSelect (tree.part_down b w) (mark left_bracket ∷ text) rest

  pub data AreSelects : Selects → (text rest : List Token) → Type 0 where
    no_select : (rest : List Token) → AreSelects whole rest rest
    one_select : (s : Select) (text rest : List Token) → IsSelect s text rest → AreSelects (one s) text rest
    two_selects : (s t : Select) (text more rest : List Token) → IsSelect s text more → IsSelect t more rest → AreSelects (two s t) text rest
