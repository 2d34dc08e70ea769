use Rattle.std.proofs.Common.{◌≡◌, ◌<◌, ◌++◌, length, get_or, take, sym, ap, ◌∙◌, subst, arith, append-nil}
use Rattle.std.proofs.lemmas.List.{get_or-take}
use Rattle.wb_values.specs.Value.{number}
use Rattle.model_meaning.specs.Model.{states_of}
use Rattle.scripts.specs.Simulation.{state_text}
use Rattle.term_evaluation.specs.Slots.{IsShownAs}
use Rattle.ila_model.specs.Model.{model_of}
use Rattle.ila_child.specs.Runs.{state_in}
use Rattle.ila_child.proofs.Updates.{AreOfSorts-length}
use Rattle.ila_sim.proofs.Told.{value_told, values_done}
use Rattle.ila_sim.proofs.text.append_states_there.Goals as goal

pub shown-requires : goal.shown-requires
shown-requires c =
    let p = c.args.model.now.parts in
    omega (arith, c.loop-place-test.true, c.state_count-place-end.ensures.within, AreOfSorts-length p.terms.names c.args.runner.now.point.values c.requires.fits)

pub loop-place-preserved : goal.loop-place-preserved
loop-place-preserved c =
    let p = c.args.model.now.parts in
    let n = length p.initial_values.items in
    let xs = c.args.runner.now.point.values in
    let k = c.loop-place.place in
    let low : k < n = omega (arith, c.loop-place-test.true, c.state_count-place-end.ensures.place) in
    let v = get_or (take n xs) k (number 0) in
    let shown = subst (λ w. IsShownAs w c.in_ok-shown.shown) (sym (get_or-take n xs k (number 0) low)) c.in_ok-shown.ensures in
    value_told (states_of (model_of c.args.model.now).top) (take n xs) k c.state_name.result.now c.loop-place.out.items c.append_value.new.out.items
    c.state_name.ensures (c.in_ok-append_value.ensures v shown)
    ∙ c.loop-place.invariant

pub returns : goal.returns
returns c =
    let q = state_in c.args.model.now.parts c.args.runner.now in
    let done = values_done (states_of (model_of c.args.model.now).top) q c.loop-place.place (omega (arith, c.state_count-place-end.ensures.states, c.loop-place-test.false)) in
    sym (append-nil c.loop-place.out.items) ∙ (sym (ap (λ t. c.loop-place.out.items ++ t) done) ∙ c.loop-place.invariant)
