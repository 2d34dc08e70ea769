use Rattle.std.proofs.Common.{length}
use Rattle.model_meaning.specs.Model.{states_of}
use Rattle.ila_model.specs.Model.{model_of}
use Rattle.mapped_designs.specs.View.{mapped_of}
use Rattle.fact_terms.specs.Shown.{run_of}
use Rattle.fact_terms.proofs.Rows.{there}
use Rattle.fact_terms.proofs.Claimed.{name_is, place_within, same_told}
use Rattle.fact_terms.proofs.states.is_same.Goals as goal

pub state_at-before-requires-clause-state : goal.state_at-before-requires-clause-state
state_at-before-requires-clause-state c = place_within (states_of (model_of c.args.shared.now.model.now).top) c.args.state.place c.args.state.name.now c.requires.state

pub state_at-after-requires-clause-state : goal.state_at-after-requires-clause-state
state_at-after-requires-clause-state c = place_within (states_of (model_of c.args.shared.now.model.now).top) c.args.state.place c.args.state.name.now c.requires.state

pub equal-requires : goal.equal-requires
equal-requires c =
    let g = c.args.terms.now in
    let ss = states_of (model_of c.args.shared.now.model.now).top in
    let d = there ss c.args.state.place (place_within ss c.args.state.place c.args.state.name.now c.requires.state) in
    (d.0.sort, (c.state_at-after.ensures g d.0 c.requires.ready d.1).of_sort, (c.state_at-before.ensures g d.0 c.requires.ready d.1).of_sort)

pub returns-clause-told : goal.returns-clause-told
returns-clause-told c =
    let g = c.args.terms.now in
    let h = c.args.shared.now in
    let m = model_of h.model.now in
    let e = mapped_of h.mapped.now in
    let n = length h.read.now in
    let ss = states_of m.top in
    let d = there ss c.args.state.place (place_within ss c.args.state.place c.args.state.name.now c.requires.state) in
    same_told c.in_ok-id.id.0 c.state_at-after.result.0 c.state_at-before.result.0 d.0.sort c.args.state.name.now e (run_of e n) m d.0
    (name_is ss c.args.state.place d.0 c.args.state.name.now d.1 c.requires.state) c.in_ok-id.ensures.extended
    (c.state_at-after.ensures g d.0 c.requires.ready d.1) (c.state_at-before.ensures g d.0 c.requires.ready d.1) c.in_ok-id.ensures.told
