use Rattle.std.proofs.Common.{◌≡◌, Some, get_or, sym, subst}
use Rattle.std.specs.Prelude.{slice_get}
use Rattle.wb_values.specs.Value.{number}
use Rattle.shown_facts.specs.Values.{model_in, map_in, values_in}
use Rattle.shown_facts.specs.Noted.{IsSeenAt}
use Rattle.shown_facts.proofs.Stating.{states_apart, within_values, value_at, shown_there, same_told}
use Rattle.shown_facts.proofs.states.is_same.Goals as goal

pub is_same_at-requires-clause-place : goal.is_same_at-requires-clause-place
is_same_at-requires-clause-place c =
    let g = c.args.given.now in
    let s = c.args.shown.now in
    within_values (model_in g) s.later.state c.values-after.result.now c.args.state.place c.args.state.name.now c.values-after.ensures c.requires.shown.later_is.sorted c.requires.state

pub is_same_at-requires-clause-there : goal.is_same_at-requires-clause-there
is_same_at-requires-clause-there c =
    let g = c.args.given.now in
    let s = c.args.shown.now in
    within_values (model_in g) s.first.state c.values-before.result.now c.args.state.place c.args.state.name.now c.values-before.ensures c.requires.shown.first_is.sorted c.requires.state

pub returns : goal.returns
returns c one =
    let g = c.args.given.now in
    let m = model_in g in
    let e = map_in g in
    let x = values_in g in
    let s = c.args.shown.now in
    let k = c.args.state.place in
    let n = c.args.state.name.now in
    let apart = states_apart g.model.now in
    let a = get_or c.values-after.result.now k (number 0) in
    let b = get_or c.values-before.result.now k (number 0) in
    let a_within = within_values m s.later.state c.values-after.result.now k n c.values-after.ensures c.requires.shown.later_is.sorted c.requires.state in
    let b_within = within_values m s.first.state c.values-before.result.now k n c.values-before.ensures c.requires.shown.first_is.sorted c.requires.state in
    let later = subst (λ t. IsSeenAt m e x t s.later) one c.requires.shown.later_is in
    let a_at = subst (λ ys. slice_get ys k ≡ Some a) c.values-after.ensures (value_at c.values-after.result.now k (number 0) a_within) in
    let b_at = subst (λ ys. slice_get ys k ≡ Some b) c.values-before.ensures (value_at c.values-before.result.now k (number 0) b_within) in
    same_told m e x n a b c.is_same_at.result (shown_there m e x 1 s.later k n a apart later c.requires.state a_at)
    (shown_there m e x 0 s.first k n b apart c.requires.shown.first_is c.requires.state b_at) c.is_same_at.ensures
