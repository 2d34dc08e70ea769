use Rattle.std.proofs.Common.{◌≡◌, ◌∙◌}
use Rattle.term_copies.proofs.Extending.{extended_trans, extended_refl, extended_same}
use Rattle.model_terms.proofs.Choosing.{true_kept, test_kept}
use Rattle.model_terms.proofs.joining.put_none.Goals as goal

pub returns-clause-none : goal.returns-clause-none
returns-clause-none c v = true_kept c.in_ok-none.none.0 v c.in_ok-ended.ensures.extended c.in_ok-none.ensures.test.below ∙ c.in_ok-none.ensures.value v

pub returns-clause-none_test : goal.returns-clause-none_test
returns-clause-none_test c = test_kept c.in_ok-none.none.0 c.in_ok-ended.ensures.extended c.in_ok-none.ensures.test
