use Rattle.std.proofs.Common.{sym, ap, ◌∙◌, subst}
use Rattle.std.specs.String.{string_bytes}
use Rattle.ila_child.specs.State.{IsStateOf, state_valuation}
use Rattle.ila_model.specs.Model.{model_of}
use Rattle.ila_sim.proofs.Declared.{states_apart}
use Rattle.ila_sim.proofs.Made.{state_sorted, state_meant}
use Rattle.ila_sim.proofs.beginning.first_state.Goals as goal

pub returns-clause-values : goal.returns-clause-values
returns-clause-values c =
    let model = c.args.model.now in
    let m = model_of model in
    let sets = c.args.sets.now in
    ap (state_valuation m) c.in_ok-set_states.ensures
    ∙ state_meant m c.in_ok-state.state sets (states_apart model.parts (string_bytes model.name) model.well_sorted) c.in_ok-state.ensures.values c.in_ok-state.ensures.sorted c.requires

pub returns-clause-sorted : goal.returns-clause-sorted
returns-clause-sorted c =
    let m = model_of c.args.model.now in
    let sets = c.args.sets.now in
    subst (IsStateOf m) (sym c.in_ok-set_states.ensures) (state_sorted m c.in_ok-state.state sets c.in_ok-state.ensures.sorted c.requires)
