use Rattle.std.proofs.Common.{◌≡◌, refl, ap}
use Rattle.wb_values.specs.Value.{as_truth}
use Rattle.wb_terms.specs.declared.nodes.Node.TheVariants.{Truth}
use Rattle.term_copies.proofs.Extending.{extended_by, extended_same}
use Rattle.model_terms.proofs.Choosing.{test_put, put_value}
use Rattle.model_terms.proofs.choices.put_truth.Goals as goal

pub returns-clause-test : goal.returns-clause-test
returns-clause-test c = test_put c.args.terms.now c.put.new.terms (Truth c.args.truth) c.in_ok-id.id.0 c.in_ok-id.ensures.id c.in_ok-id.ensures.ok refl (λ v. refl)

pub returns-clause-value : goal.returns-clause-value
returns-clause-value c v = ap as_truth (put_value c.args.terms.now c.put.new.terms (Truth c.args.truth) c.in_ok-id.id.0 v c.in_ok-id.ensures.id c.in_ok-id.ensures.ok)
