use Rattle.std.proofs.Common.{◌<◌, ◌≤◌, [], ◌∷◌, length, take, ap, ◌∙◌, arith}
use Rattle.std.proofs.lemmas.List.{take_all}
use Rattle.model_meaning.specs.Model.{states_of}
use Rattle.refinement.specs.Obligation.{initial, state_obligations, with_initial_values}
use Rattle.ila_model.specs.Model.{model_of}
use Rattle.obligation_lists.specs.Claims.{hypotheses_of}
use Rattle.obligation_lists.proofs.Growing.{next, read_as, at_next, states_append, initial_append}
use Rattle.obligation_lists.proofs.groups.add_initial.Goals as goal

pub loop-place-preserved : goal.loop-place-preserved
loop-place-preserved c =
    let g = c.args.group in
    let m = model_of c.args.model.now in
    let ss = states_of m.top in
    let k = c.loop-place.place in
    let here : k < length ss = omega (arith, c.loop-place-test.true, c.state_count-place-end.ensures.states) in
    let r = at_next ss k here in
    λ counts hyps.
    read_as m counts _ _ _ _
    (next m counts _ _ _ _ _ (c.loop-place.invariant counts hyps) (c.in_ok-add_initial_of.ensures counts r.0 r.1 hyps))
    (λ p h. states_append g.text.now g.cycles (hypotheses_of p g.hypotheses) (λ n. initial n g.cycles) (with_initial_values (take k ss))
    (with_initial_values (r.0 ∷ []))
    ∙ ap (λ ds. state_obligations g.text.now g.cycles (hypotheses_of p g.hypotheses) (λ n. initial n g.cycles) ds)
    (initial_append (take k ss) (r.0 ∷ []) ∙ ap with_initial_values r.2))

pub returns : goal.returns
returns c =
    let g = c.args.group in
    let m = model_of c.args.model.now in
    let ss = states_of m.top in
    let end : length ss ≤ c.loop-place.place = omega (arith, c.loop-place-test.false, c.state_count-place-end.ensures.states) in
    λ counts hyps.
    read_as m counts _ _ _ _ (c.loop-place.invariant counts hyps)
    (λ p h. ap (λ ds. state_obligations g.text.now g.cycles (hypotheses_of p g.hypotheses) (λ n. initial n g.cycles) (with_initial_values ds))
    (take_all c.loop-place.place ss end))
