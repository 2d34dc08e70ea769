use Rattle.std.proofs.Common.{◌≡◌, ◌∙◌, ◌&&◌, true, false, cond, refl, sym, ap}
use Rattle.term_copies.proofs.Extending.{extended_trans, extended_refl, extended_same}
use Rattle.term_copies.proofs.Copying.{leaves_kept}
use Rattle.model_terms.specs.Symbolic.{is_true}
use Rattle.model_terms.proofs.Choosing.{true_kept, condition_kept, test_kept, test_condition, worths_names}
use Rattle.model_terms.proofs.joining.put_alone.Goals as goal

pub put_both-requires-clause-condition : goal.put_both-requires-clause-condition
put_both-requires-clause-condition c = test_condition c.args.terms.now c.args.x.0 c.requires.first

pub put_test-requires-clause-condition : goal.put_test-requires-clause-condition
put_test-requires-clause-condition c = condition_kept c.args.condition.0 c.in_ok-alone.ensures.extended c.requires.condition

pub put_test-requires-clause-second : goal.put_test-requires-clause-second
put_test-requires-clause-second c = test_kept c.args.y.0 c.in_ok-alone.ensures.extended c.requires.second

pub returns-clause-value : goal.returns-clause-value
returns-clause-value c v =
    let g = c.args.terms.now in
    let h = c.put_both.new.terms in
    let e = c.in_ok-alone.ensures.extended in
    c.in_ok-id.ensures.value v
    ∙ ap (λ b. cond b (is_true h c.in_ok-alone.alone.0 v) (is_true h c.args.y.0 v)) (true_kept c.args.condition.0 v e c.requires.condition.below)
    ∙ ap (λ b. cond (is_true g c.args.condition.0 v) b (is_true h c.args.y.0 v)) (c.in_ok-alone.ensures.value v)
    ∙ ap (λ b. cond (is_true g c.args.condition.0 v) (is_true g c.args.nothing.0 v && is_true g c.args.x.0 v) b) (true_kept c.args.y.0 v e c.requires.second.below)
