use Rattle.std.proofs.Common.{◌++◌, sym, ap, ◌∙◌, arith, append-nil}
use Rattle.model_meaning.specs.Model.{states_of}
use Rattle.ila_model.specs.Model.{model_of}
use Rattle.ila_sim.proofs.Told.{value_told, values_done}
use Rattle.ila_sim.proofs.text.append_states.Goals as goal

pub loop-place-preserved : goal.loop-place-preserved
loop-place-preserved c =
    value_told (states_of (model_of c.args.model.now).top) c.args.values.now c.loop-place.place c.state_name.result.now c.loop-place.out.items c.append_value_at.new.out.items
    c.state_name.ensures c.in_ok-append_value_at.ensures
    ∙ c.loop-place.invariant

pub returns : goal.returns
returns c =
    let done = values_done (states_of (model_of c.args.model.now).top) c.args.values.now c.loop-place.place (omega (arith, c.state_count-place-end.ensures.states, c.loop-place-test.false)) in
    sym (append-nil c.loop-place.out.items) ∙ (sym (ap (λ t. c.loop-place.out.items ++ t) done) ∙ c.loop-place.invariant)
