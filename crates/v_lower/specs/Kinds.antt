-- Which operators are lowered by which function.
use Rattle.std.specs.Prelude.{Bool, true, false}
use Rattle.v_syntax.specs.declared.tree.PrefixOperator.{PrefixOperator}
use Rattle.v_syntax.specs.declared.tree.PrefixOperator.TheVariants.{Plus, Minus, Complement, IsZero, AllOnes, NotAllOnes, AnyOne, NoOne, OddOnes, EvenOnes}
use Rattle.v_syntax.specs.declared.tree.BinaryOperator.{BinaryOperator}
use Rattle.v_syntax.specs.declared.tree.BinaryOperator.TheVariants.{Multiply, Add, Subtract, ShiftLeft, ShiftRight, ArithmeticShiftRight, And, Xor, Xnor, Or}
use Rattle.v_syntax.specs.declared.tree.TestOperator.{TestOperator}
use Rattle.v_syntax.specs.declared.tree.TestOperator.TheVariants.{Both, Either}

-- + - ~ before an operand
abbrev pub keeps_width : PrefixOperator → Bool
keeps_width Plus = true
keeps_width Minus = true
keeps_width Complement = true
keeps_width _ = false

-- ! & ~& | ~| ^ ~^ before an operand
abbrev pub is_test_of_all : PrefixOperator → Bool
is_test_of_all IsZero = true
is_test_of_all AllOnes = true
is_test_of_all NotAllOnes = true
is_test_of_all AnyOne = true
is_test_of_all NoOne = true
is_test_of_all OddOnes = true
is_test_of_all EvenOnes = true
is_test_of_all _ = false

-- * + - & ^ ~^ | between two operands (/ % and ** stand in constants alone)
abbrev pub is_plain : BinaryOperator → Bool
is_plain Multiply = true
is_plain Add = true
is_plain Subtract = true
is_plain And = true
is_plain Xor = true
is_plain Xnor = true
is_plain Or = true
is_plain _ = false

-- << >> >>>
abbrev pub is_shift : BinaryOperator → Bool
is_shift ShiftLeft = true
is_shift ShiftRight = true
is_shift ArithmeticShiftRight = true
is_shift _ = false

-- && ||
abbrev pub is_logical : TestOperator → Bool
is_logical Both = true
is_logical Either = true
is_logical _ = false
