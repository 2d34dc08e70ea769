use Rattle.term_expressions.proofs.Tests.{equal_is_eq, less_is_ult, less_or_equal_is_ule, signed_less_is_slt, signed_less_or_equal_is_sle, conditional_is_ite}
use Rattle.term_expressions.proofs.laws.tests_are_computed.Goals as goal

pub returns : goal.returns
returns c = record {
  equal = equal_is_eq;
  less = less_is_ult;
  less_or_equal = less_or_equal_is_ule;
  signed_less = signed_less_is_slt;
  signed_less_or_equal = signed_less_or_equal_is_sle;
  choice = conditional_is_ite;
}
