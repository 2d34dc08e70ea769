use Rattle.std.proofs.Common.{◌≡◌, ◌∙◌, ◌+◌, ◌-◌, ◌<◌, ◌≤◌, ◌++◌, ◌∷◌, ◌&&◌, [], List, Vec, Global, Option, Some, None, true, false, cond, suc, length, take, drop, get_or, refl, sym, ap, subst, arith}
use Rattle.model_terms.specs.Symbolic.{is_true}
use Rattle.model_terms.proofs.Choosing.{true_kept, condition_kept}
use Rattle.model_terms.proofs.putting.put_condition.Goals as goal

pub put_both-requires-clause-test : goal.put_both-requires-clause-test
put_both-requires-clause-test c = c.in_ok-always.ensures.test

pub put_both-requires-clause-condition : goal.put_both-requires-clause-condition
put_both-requires-clause-condition c = condition_kept c.args.condition.0 c.in_ok-always.ensures.extended c.requires.condition

pub returns-clause-value : goal.returns-clause-value
returns-clause-value c v =
    c.in_ok-id.ensures.value v ∙ ap (λ b. b && is_true c.put_truth.new.terms c.args.condition.0 v) (c.in_ok-always.ensures.value v)
    ∙ true_kept c.args.condition.0 v c.in_ok-always.ensures.extended c.requires.condition.below
