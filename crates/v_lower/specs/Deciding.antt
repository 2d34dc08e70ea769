-- Truth values that are made of two numbers.
use Rattle.std.specs.Prelude.{ℕ, Bool}
use Rattle.wb_values.specs.Value.{truth, Valuation}
use Rattle.verilog_trees.specs.Syntax as pure
use Rattle.verilog_meaning.specs.Expression.{comparison_value, logical_value, reduction_value, integer_from, is_nonzero}
use Rattle.wb_terms.specs.Graph.{Graph}
use Rattle.v_syntax.specs.declared.tree.TestOperator.{TestOperator}
use Rattle.v_syntax.specs.declared.tree.TestOperator.TheVariants.{Less, LessOrEqual, Greater, GreaterOrEqual, NotEqual, Both}
use Rattle.v_syntax.specs.declared.tree.PrefixOperator.{PrefixOperator}
use Rattle.v_syntax.specs.declared.tree.PrefixOperator.TheVariants.{AllOnes, NotAllOnes, AnyOne, NoOne, OddOnes, EvenOnes}
use Rattle.v_operators.specs.Meaning.{IsOfSort, HasNumber, HasTruth}

-- The term of the second store is a truth value, which is made of two numbers of the first, of u and v bits.
pub record Decides (g h : Graph) (x u y v id : ℕ) (f : ℕ → ℕ → Bool) : Type 0 where
  pub of_sort : IsOfSort h id truth
  pub value : (p : Valuation) (a b : ℕ) → HasNumber g x u p a → HasNumber g y v p b → HasTruth h id p (f a b)

-- what a comparison says of two numbers of w bits, by their signs
abbrev pub compared : TestOperator → Bool → ℕ → ℕ → ℕ → Bool
compared Less t w a b = comparison_value pure.less (integer_from t w a) (integer_from t w b)
compared LessOrEqual t w a b = comparison_value pure.less_or_equal (integer_from t w a) (integer_from t w b)
compared Greater t w a b = comparison_value pure.greater (integer_from t w a) (integer_from t w b)
compared GreaterOrEqual t w a b = comparison_value pure.greater_or_equal (integer_from t w a) (integer_from t w b)
compared NotEqual t w a b = comparison_value pure.not_equal (integer_from t w a) (integer_from t w b)
compared _ t w a b = comparison_value pure.equal (integer_from t w a) (integer_from t w b)

-- what && and || say
abbrev pub connected : TestOperator → ℕ → ℕ → Bool
connected Both a b = logical_value pure.both (is_nonzero a) (is_nonzero b)
connected _ a b = logical_value pure.either (is_nonzero a) (is_nonzero b)

-- what the operators that make one bit of a whole number of w bits say
abbrev pub reduced : PrefixOperator → ℕ → ℕ → Bool
reduced AllOnes w x = reduction_value pure.all_ones w x
reduced NotAllOnes w x = reduction_value pure.not_all_ones w x
reduced AnyOne w x = reduction_value pure.any_one w x
reduced NoOne w x = reduction_value pure.no_one w x
reduced OddOnes w x = reduction_value pure.odd_ones w x
reduced EvenOnes w x = reduction_value pure.even_ones w x
reduced _ w x = reduction_value pure.is_zero w x
