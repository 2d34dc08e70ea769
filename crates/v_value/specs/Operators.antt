-- What the code's operators do to numbers, by the meaning of the operators that they stand for.
use Rattle.std.specs.Prelude.{ℕ, Bool, cond, ℤ, pos, neg_ℤ}
use Rattle.verilog_trees.specs.Syntax as pure
use Rattle.verilog_meaning.specs.Expression.{unary_value, reduction_value, binary_value, shift_value, power_value, integer_from, comparison_value, logical_value}
use Rattle.v_syntax.specs.declared.tree.PrefixOperator.{PrefixOperator}
use Rattle.v_syntax.specs.declared.tree.PrefixOperator.TheVariants.{Minus, Complement, AllOnes, NotAllOnes, AnyOne, NoOne, OddOnes, EvenOnes}
use Rattle.v_syntax.specs.declared.tree.BinaryOperator.{BinaryOperator}
use Rattle.v_syntax.specs.declared.tree.BinaryOperator.TheVariants.{Power, Multiply, Divide, Modulo, Add, Subtract, ShiftLeft, ArithmeticShiftRight, And, Xor, Xnor, Or}
use Rattle.v_syntax.specs.declared.tree.TestOperator.{TestOperator}
use Rattle.v_syntax.specs.declared.tree.TestOperator.TheVariants.{Less, LessOrEqual, Greater, GreaterOrEqual, NotEqual, Both}

abbrev pub unary_prefix_value : PrefixOperator → ℕ → ℕ → ℕ
unary_prefix_value Minus w x = unary_value pure.minus w x
unary_prefix_value Complement w x = unary_value pure.complement w x
unary_prefix_value _ w x = unary_value pure.plus w x

abbrev pub reduction_prefix_value : PrefixOperator → ℕ → ℕ → Bool
reduction_prefix_value AllOnes w x = reduction_value pure.all_ones w x
reduction_prefix_value NotAllOnes w x = reduction_value pure.not_all_ones w x
reduction_prefix_value AnyOne w x = reduction_value pure.any_one w x
reduction_prefix_value NoOne w x = reduction_value pure.no_one w x
reduction_prefix_value OddOnes w x = reduction_value pure.odd_ones w x
reduction_prefix_value EvenOnes w x = reduction_value pure.even_ones w x
reduction_prefix_value _ w x = reduction_value pure.is_zero w x

abbrev pub shifted_value : BinaryOperator → ℕ → Bool → ℕ → ℕ → ℕ
shifted_value ShiftLeft w signed x n = shift_value pure.left w signed x n
shifted_value ArithmeticShiftRight w signed x n = shift_value pure.arithmetic_right w signed x n
shifted_value _ w signed x n = shift_value pure.right w signed x n

-- an operator whose right operand is by itself, of width u, sign t and value n: a power, or a shift
abbrev pub outer_value : BinaryOperator → ℕ → Bool → ℕ → Bool → ℕ → ℕ → ℕ
outer_value Power w signed x t u n = power_value w x (integer_from t u n)
outer_value o w signed x t u n = shifted_value o w signed x n

-- an operator whose operands both stand in the context
abbrev pub plain_value : BinaryOperator → ℕ → Bool → ℕ → ℕ → ℕ
plain_value Multiply w signed x y = binary_value pure.multiply w signed x y
plain_value Divide w signed x y = binary_value pure.divide w signed x y
plain_value Modulo w signed x y = binary_value pure.modulo w signed x y
plain_value Add w signed x y = binary_value pure.add w signed x y
plain_value Subtract w signed x y = binary_value pure.subtract w signed x y
plain_value And w signed x y = binary_value pure.bitwise_and w signed x y
plain_value Xor w signed x y = binary_value pure.bitwise_xor w signed x y
plain_value Xnor w signed x y = binary_value pure.bitwise_xnor w signed x y
plain_value Or w signed x y = binary_value pure.bitwise_or w signed x y
plain_value _ w signed x y = x

-- the integer of this size, below 0 where it is negative
abbrev pub integer_of_size : Bool → ℕ → ℤ
integer_of_size negative n = cond negative (neg_ℤ (pos n)) (pos n)

abbrev pub compared_value : TestOperator → ℤ → ℤ → Bool
compared_value Less x y = comparison_value pure.less x y
compared_value LessOrEqual x y = comparison_value pure.less_or_equal x y
compared_value Greater x y = comparison_value pure.greater x y
compared_value GreaterOrEqual x y = comparison_value pure.greater_or_equal x y
compared_value NotEqual x y = comparison_value pure.not_equal x y
compared_value _ x y = comparison_value pure.equal x y

abbrev pub joined_truth : TestOperator → Bool → Bool → Bool
joined_truth Both x y = logical_value pure.both x y
joined_truth _ x y = logical_value pure.either x y
