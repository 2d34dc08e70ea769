use Rattle.std.proofs.Common.{◌≡◌, ◌∙◌, ◌&&◌, true, false, cond, refl, sym, ap}
use Rattle.term_copies.proofs.Extending.{extended_trans, extended_refl, extended_same}
use Rattle.term_copies.proofs.Copying.{leaves_kept}
use Rattle.model_terms.specs.Symbolic.{is_true}
use Rattle.model_terms.proofs.Choosing.{true_kept, condition_kept, test_kept, test_condition, worths_names}
use Rattle.model_terms.proofs.joining.put_went.Goals as goal

pub put_test-requires-clause-condition : goal.put_test-requires-clause-condition
put_test-requires-clause-condition c = condition_kept c.args.condition.0 c.in_ok-always.ensures.extended c.requires.condition

pub put_test-requires-clause-first : goal.put_test-requires-clause-first
put_test-requires-clause-first c = test_kept c.args.x.0 c.in_ok-always.ensures.extended c.requires.test

pub put_both-requires-clause-test : goal.put_both-requires-clause-test
put_both-requires-clause-test c = test_kept c.args.earlier.0 (extended_trans c.in_ok-always.ensures.extended c.in_ok-went.ensures.extended) c.requires.earlier

pub put_both-requires-clause-condition : goal.put_both-requires-clause-condition
put_both-requires-clause-condition c = test_condition c.put_test.new.terms c.in_ok-went.went.0 c.in_ok-went.ensures.test

pub returns-clause-value : goal.returns-clause-value
returns-clause-value c v =
    let g = c.args.terms.now in
    let h = c.put_truth.new.terms in
    let k = c.put_test.new.terms in
    let e = c.in_ok-always.ensures.extended in
    c.in_ok-id.ensures.value v
    ∙ ap (λ b. b && is_true k c.in_ok-went.went.0 v) (true_kept c.args.earlier.0 v (extended_trans e c.in_ok-went.ensures.extended) c.requires.earlier.below)
    ∙ ap (λ b. is_true g c.args.earlier.0 v && b) (c.in_ok-went.ensures.value v
    ∙ ap (λ b. cond b (is_true h c.args.x.0 v) (is_true h c.in_ok-always.always.0 v)) (true_kept c.args.condition.0 v e c.requires.condition.below)
    ∙ ap (λ b. cond (is_true g c.args.condition.0 v) b (is_true h c.in_ok-always.always.0 v)) (true_kept c.args.x.0 v e c.requires.test.below)
    ∙ ap (λ b. cond (is_true g c.args.condition.0 v) (is_true g c.args.x.0 v) b) (c.in_ok-always.ensures.value v))
