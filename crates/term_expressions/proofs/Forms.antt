-- The forms, one by one.
use Rattle.std.proofs.Common.{◌≡◌, ℕ, ◌<◌, ◌^◌, max, false, ◌&&◌, arith, ◌∙◌, ap}
use Rattle.wb_values.specs.Value.{Valuation}
use Rattle.verilog_trees.specs.Syntax.{Expression, BinaryOperator, binary, UnaryOperator, unary, complement, minus, add, subtract, multiply, bitwise_and, bitwise_or, bitwise_xor}
use Rattle.verilog_meaning.specs.Expression.{Scope, width_of, sign_of, value_of, unary_value, binary_value}
use Rattle.v_operators.proofs.Bounds.{not_below, neg_below, add_below, sub_below, mul_below, and_below, or_below, xor_below}
use Rattle.term_expressions.specs.Expressions.{IsWorth}
use Rattle.term_expressions.specs.Laws.{ComplementIsNot, MinusIsNeg, SumIsAdd, DifferenceIsSub, ProductIsMul, BitwiseAndIsAnd, BitwiseOrIsOr, BitwiseXorIsXor}

max_same : (w : ℕ) → max w w ≡ w
max_same w = omega arith

one_operand : (op : UnaryOperator) (s : Scope) (v : Valuation) (e : Expression) (w x : ℕ) → IsWorth s v e w x → unary_value op w x < 2 ^ w
    → IsWorth s v (unary op e) w (unary_value op w x)
one_operand op s v e w x h fits = record { width = h.width; unsigned = h.unsigned; value = ap (unary_value op w) h.value; fits = fits }

two_operands : (op : BinaryOperator) (s : Scope) (v : Valuation) (e f : Expression) (w x y : ℕ) → IsWorth s v e w x → IsWorth s v f w y
    → binary_value op w false x y < 2 ^ w → IsWorth s v (binary op e f) w (binary_value op w false x y)
two_operands op s v e f w x y h k fits = record {
  width = ap (λ a. max a (width_of s f)) h.width ∙ (ap (λ b. max w b) k.width ∙ max_same w);
  unsigned = ap (λ a. a && sign_of s f) h.unsigned;
  value = ap (λ a. binary_value op w false a (value_of s v f w false)) h.value ∙ ap (λ b. binary_value op w false x b) k.value;
  fits = fits;
}

pub complement_is_not : ComplementIsNot
complement_is_not s v e w x h = one_operand complement s v e w x h (not_below w x)

pub minus_is_neg : MinusIsNeg
minus_is_neg s v e w x h = one_operand minus s v e w x h (neg_below w x)

pub sum_is_add : SumIsAdd
sum_is_add s v e f w x y h k = two_operands add s v e f w x y h k (add_below w x y h.fits k.fits)

pub difference_is_sub : DifferenceIsSub
difference_is_sub s v e f w x y h k = two_operands subtract s v e f w x y h k (sub_below w x y h.fits k.fits)

pub product_is_mul : ProductIsMul
product_is_mul s v e f w x y h k = two_operands multiply s v e f w x y h k (mul_below w x y h.fits k.fits)

pub bitwise_and_is_and : BitwiseAndIsAnd
bitwise_and_is_and s v e f w x y h k = two_operands bitwise_and s v e f w x y h k (and_below w x y h.fits k.fits)

pub bitwise_or_is_or : BitwiseOrIsOr
bitwise_or_is_or s v e f w x y h k = two_operands bitwise_or s v e f w x y h k (or_below w x y h.fits k.fits)

pub bitwise_xor_is_xor : BitwiseXorIsXor
bitwise_xor_is_xor s v e f w x y h k = two_operands bitwise_xor s v e f w x y h k (xor_below w x y h.fits k.fits)
