use Rattle.std.proofs.Common.{◌≡◌, ◌∙◌, refl, sym, ap}
use Rattle.wb_values.specs.Value.{truth}
use Rattle.model_terms.proofs.Choosing.{test_condition, test_choice, true_choice, is_some_of}
use Rattle.model_terms.proofs.choices.put_test.Goals as goal

pub put_choice-requires-clause-sorted : goal.put_choice-requires-clause-sorted
put_choice-requires-clause-sorted c = is_some_of _ truth c.requires.first.sort

pub put_choice-requires-clause-same : goal.put_choice-requires-clause-same
put_choice-requires-clause-same c = c.requires.second.sort ∙ sym c.requires.first.sort

pub returns-clause-test : goal.returns-clause-test
returns-clause-test c =
    test_choice c.args.terms.now c.put_choice.new.terms c.args.condition.0 c.args.x.0 c.args.y.0 c.in_ok-id.id.0 c.requires.first c.requires.second
    c.in_ok-id.ensures.below c.in_ok-id.ensures.sort c.in_ok-id.ensures.value

pub returns-clause-value : goal.returns-clause-value
returns-clause-value c v =
    true_choice c.args.terms.now c.put_choice.new.terms c.args.condition.0 c.args.x.0 c.args.y.0 c.in_ok-id.id.0 v c.requires.first c.requires.second (c.in_ok-id.ensures.value v)
