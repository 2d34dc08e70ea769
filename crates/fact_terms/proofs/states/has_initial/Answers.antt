use Rattle.std.proofs.Common.{◌∙◌, length, ap}
use Rattle.std.specs.Prelude.{option_map}
use Rattle.wb_terms.specs.Environment.{as_value}
use Rattle.model_meaning.specs.Model.{states_of}
use Rattle.ila_model.specs.Model.{model_of}
use Rattle.mapped_designs.specs.View.{mapped_of}
use Rattle.fact_terms.specs.Shown.{run_of}
use Rattle.fact_terms.proofs.Rows.{there}
use Rattle.fact_terms.proofs.Claimed.{name_is, place_within, init_is, initial_told, free_told}
use Rattle.fact_terms.proofs.states.has_initial.Goals as goal

pub initial_value-requires : goal.initial_value-requires
initial_value-requires c = place_within (states_of (model_of c.args.shared.now.model.now).top) c.args.state.place c.args.state.name.now c.requires.state

pub state_at-requires-clause-state : goal.state_at-requires-clause-state
state_at-requires-clause-state c = place_within (states_of (model_of c.args.shared.now.model.now).top) c.args.state.place c.args.state.name.now c.requires.state

pub has_value-requires : goal.has_value-requires
has_value-requires c =
    let g = c.args.terms.now in
    let h = c.args.shared.now in
    let m = model_of h.model.now in
    let e = mapped_of h.mapped.now in
    let r = c.requires.ready in
    let ss = states_of m.top in
    let k = c.args.state.place in
    let d = there ss k (place_within ss k c.args.state.name.now c.requires.state) in
    let i = init_is ss k d.0 (option_map as_value c.initial_value.result.now) d.1 c.initial_value.ensures ∙ ap (option_map as_value) c.in-Some.is in
    (d.0.sort, (c.state_at.ensures g d.0 r d.1).of_sort, r.initial k d.0 (as_value c.in-Some.value) d.1 i)

pub returns-in_ok-id-in-Some-clause-told : goal.returns-in_ok-id-in-Some-clause-told
returns-in_ok-id-in-Some-clause-told c =
    let g = c.args.terms.now in
    let h = c.args.shared.now in
    let m = model_of h.model.now in
    let e = mapped_of h.mapped.now in
    let r = c.requires.ready in
    let ss = states_of m.top in
    let k = c.args.state.place in
    let d = there ss k (place_within ss k c.args.state.name.now c.requires.state) in
    let i = init_is ss k d.0 (option_map as_value c.initial_value.result.now) d.1 c.initial_value.ensures ∙ ap (option_map as_value) c.in-Some.is in
    initial_told c.in_ok-id-in-Some.id.0 c.state_at.result.0 c.args.cycle k m e (run_of e (length h.read.now)) d.0 c.args.state.name.now (as_value c.in-Some.value) r.distinct d.1
    (name_is ss k d.0 c.args.state.name.now d.1 c.requires.state) i c.in_ok-id-in-Some.ensures.extended (c.state_at.ensures g d.0 r d.1) c.in_ok-id-in-Some.ensures.told

pub returns-in_ok-id-in-None-clause-told : goal.returns-in_ok-id-in-None-clause-told
returns-in_ok-id-in-None-clause-told c =
    let g = c.args.terms.now in
    let h = c.args.shared.now in
    let m = model_of h.model.now in
    let e = mapped_of h.mapped.now in
    let r = c.requires.ready in
    let ss = states_of m.top in
    let k = c.args.state.place in
    let d = there ss k (place_within ss k c.args.state.name.now c.requires.state) in
    let i = init_is ss k d.0 (option_map as_value c.initial_value.result.now) d.1 c.initial_value.ensures ∙ ap (option_map as_value) c.in-None.is in
    free_told c.in_ok-id-in-None.id.0 c.args.cycle k m e (run_of e (length h.read.now)) d.0 c.args.state.name.now r.distinct d.1
    (name_is ss k d.0 c.args.state.name.now d.1 c.requires.state) i c.in_ok-id-in-None.ensures.value
