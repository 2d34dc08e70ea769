use Rattle.std.proofs.Common.{subst}
use Rattle.model_meaning.specs.Outcome.{IsOutcome}
use Rattle.ila_child.specs.State.{state_valuation}
use Rattle.ila_child.specs.Step.{outcome_view}
use Rattle.ila_child.specs.Runs.{state_in, stepped_of}
use Rattle.ila_model.specs.Model.{model_of}
use Rattle.ila_sim.proofs.Steps.{after_moved}
use Rattle.ila_sim.proofs.running.answer.Goals as goal

pub returns-clause-outcome : goal.returns-clause-outcome
returns-clause-outcome c =
    let m = model_of c.args.model.now in
    let p = c.args.model.now.parts in
    subst (λ w. IsOutcome m (state_valuation m (state_in p c.args.runner.now)) w (outcome_view m (stepped_of c.in_ok-moved.moved (state_in p c.step.new.self)))) c.in_ok-inputs.ensures.values c.in_ok-moved.ensures.stepped.0

pub returns-clause-well : goal.returns-clause-well
returns-clause-well c = c.in_ok-moved.ensures.stepped.1

pub returns-clause-after : goal.returns-clause-after
returns-clause-after c =
    let p = c.args.model.now.parts in
    after_moved c.in_ok-moved.moved (state_in p c.args.runner.now) (state_in p c.step.new.self) c.in_ok-moved.ensures.stays
