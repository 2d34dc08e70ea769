-- Values of Verilog expressions and their widths.
use Rattle.std.specs.Prelude.{ℕ, ◌^◌, ◌≤◌, ◌<◌, slice_index, Bool, IsTrue, ⊤}
use Rattle.wb_values.specs.Value.{Value, as_words, Valuation}
use Rattle.verilog_trees.specs.Syntax.{Expression, number, name, concatenation, replication, as_signed, as_unsigned, unary, reduction, binary, shift, power, comparison, logical, conditional, Expressions, no_expressions, expression, Selects, whole, one, two}
use Rattle.verilog_meaning.specs.Expression.{Object, Scope, object_width, is_memory, whole_value, width_of, value_of, self_value}

-- What is read whole fits the object's bits: the number of a net, a variable or a parameter, or each word of a memory.
-- A select of bits may be of any number.
abbrev pub ReadFits : Object → Value → Selects → Type 0
ReadFits o x whole = whole_value o x < 2 ^ object_width o
ReadFits o x (one i) = IsTrue (is_memory o) → (k : ℕ) → slice_index (as_words x) k < 2 ^ object_width o
ReadFits o x (two i j) = ⊤

abbrev mutual
  -- The numbers and names whose bits may come into the expression's value fit their widths. Nothing is asked of conditions and
  -- compared operands, of indexes, bounds and counts, and of what shifts by.
  pub LeavesFit : Scope → Valuation → Expression → Type 0
  LeavesFit s v (number k) = k.value < 2 ^ k.width
  LeavesFit s v (name n x) = ReadFits (s n) (v n) x
  LeavesFit s v (concatenation es) = AllLeavesFit s v es
  LeavesFit s v (replication k es) = AllLeavesFit s v es
  LeavesFit s v (as_signed x) = LeavesFit s v x
  LeavesFit s v (as_unsigned x) = LeavesFit s v x
  LeavesFit s v (unary op x) = LeavesFit s v x
  LeavesFit s v (reduction op x) = ⊤
  LeavesFit s v (binary op x y) = LeavesFit s v x × LeavesFit s v y
  LeavesFit s v (shift op x n) = LeavesFit s v x
  LeavesFit s v (power x n) = ⊤
  LeavesFit s v (comparison op x y) = ⊤
  LeavesFit s v (logical op x y) = ⊤
  LeavesFit s v (conditional c x y) = LeavesFit s v x × LeavesFit s v y

  pub AllLeavesFit : Scope → Valuation → Expressions → Type 0
  AllLeavesFit s v no_expressions = ⊤
  AllLeavesFit s v (expression e es) = LeavesFit s v e × AllLeavesFit s v es

-- The value of an expression is a number of its width, however wide it is, and whatever its divisors and exponents are.
abbrev pub ValueFitsItsWidth : Type 0
ValueFitsItsWidth = (s : Scope) (v : Valuation) (e : Expression) → LeavesFit s v e → self_value s v e < 2 ^ width_of s e

-- In a wider context it is a number of the context's width, by either sign: 4'd9 + 4'd8 is 1 by itself, and 17 in 5 bits.
abbrev pub ValueFitsItsContext : Type 0
ValueFitsItsContext =
    (s : Scope) (v : Valuation) (e : Expression) (w : ℕ) (signed : Bool) → LeavesFit s v e → width_of s e ≤ w
    → value_of s v e w signed < 2 ^ w
