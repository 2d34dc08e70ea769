use Rattle.term_expressions.proofs.Forms.{complement_is_not, minus_is_neg, sum_is_add, difference_is_sub, product_is_mul, bitwise_and_is_and, bitwise_or_is_or, bitwise_xor_is_xor}
use Rattle.term_expressions.proofs.laws.operators_are_computed.Goals as goal

pub returns : goal.returns
returns c = record {
  complement = complement_is_not;
  minus = minus_is_neg;
  sum = sum_is_add;
  difference = difference_is_sub;
  product = product_is_mul;
  both = bitwise_and_is_and;
  either = bitwise_or_is_or;
  different = bitwise_xor_is_xor;
}
