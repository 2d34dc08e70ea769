use Rattle.std.proofs.Common.{◌∙◌, Some, option_map, refl, ap, arith}
use Rattle.std.proofs.lemmas.Bool.{false≢true}
use Rattle.wb_values.specs.Value.{number}
use Rattle.model_meaning.specs.Model.{states_of}
use Rattle.wb_terms.specs.Environment.{as_value}
use Rattle.ila_model.specs.Model.{model_of}
use Rattle.run_watch.proofs.Differing.{other_here, stated_more, unstated_more, none_stated}
use Rattle.run_watch.proofs.comparing.first_other_stated.Goals as goal
use Rattle.run_watch.proofs.comparing.first_other_stated.Goals.{in-Some+else-not-is_value_at, in-None}

pub returns-then-not-is_value_at : goal.returns-then-not-is_value_at
returns-then-not-is_value_at c =
    let ds = states_of (model_of c.args.model.now).top in
    let xs = c.args.values.now in
    let k = c.loop-k.k in
    other_here ds xs k c.in-Some.stated (number 0) c.loop-k.invariant
    (c.initial_value.ensures ∙ ap (λ o. Some (option_map as_value o)) c.in-Some.is)
    (omega (arith, c.loop-k-test.true)) (λ e. false≢true (c.if-not-is_value_at.ensures.1 e))

pub loop-k-preserved : goal.loop-k-preserved
loop-k-preserved c =
    let ds = states_of (model_of c.args.model.now).top in
    let xs = c.args.values.now in
    let k = c.loop-k.k in
    elim c.match-initial_value.branch [
      | in-Some+else-not-is_value_at w ↦
          stated_more ds xs k w.in-Some.stated (number 0) c.loop-k.invariant
          (c.initial_value.ensures ∙ ap (λ o. Some (option_map as_value o)) w.in-Some.is)
          (omega (arith, c.loop-k-test.true)) (w.if-not-is_value_at.ensures.0 refl)
      | in-None w ↦ unstated_more ds xs k c.loop-k.invariant (c.initial_value.ensures ∙ ap (λ o. Some (option_map as_value o)) w.in-None.is)
    ]

pub returns : goal.returns
returns c = none_stated (states_of (model_of c.args.model.now).top) c.args.values.now c.loop-k.k (omega (arith, c.loop-k-test.false)) c.loop-k.invariant
