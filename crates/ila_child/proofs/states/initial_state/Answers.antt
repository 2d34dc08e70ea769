use Rattle.std.proofs.Common.{◌<◌, [], ◌∷◌, ◌++◌, List, length, take, option_map, ◌∙◌, sym, ap, subst, arith}
use Rattle.std.proofs.lemmas.List.{take_more, take_all, length-map}
use Rattle.wb_values.specs.Value as meaning
use Rattle.wb_values.specs.Value.{number}
use Rattle.model_meaning.specs.Model.{states_of, value_or}
use Rattle.wb_terms.specs.Sort.{as_sort}
use Rattle.wb_terms.specs.Environment.{as_value, AreOfSorts}
use Rattle.ila_model.specs.Model.{model_of}
use Rattle.ila_model.proofs.Declarations.{sorted}
use Rattle.ila_model.specs.Meaning.{zero_of}
use Rattle.ila_child.specs.Values.{beginning}
use Rattle.ila_child.specs.State.{initial_values, sorts_of_states}
use Rattle.ila_child.proofs.Initial.{initial-at, initial_sort-at, initial_sorts}
use Rattle.ila_child.proofs.states.initial_state.Goals as goal

pub push_initial-requires-clause-sort : goal.push_initial-requires-clause-sort
push_initial-requires-clause-sort c =
    let m = c.args.model.now in
    let ss = states_of (model_of m).top in
    let sorted = initial_sorts m.parts.terms.names m.parts.initial_values.items (sorted m.parts m.well_sorted).declared.states in
    initial_sort-at ss c.loop-place.place (option_map as_value c.initial_value.result.now) (as_sort c.state_sort-sort.result) sorted c.initial_value.ensures c.state_sort-sort.ensures.sort

pub loop-place-preserved : goal.loop-place-preserved
loop-place-preserved c =
    let ss = states_of (model_of c.args.model.now).top in
    let k = c.loop-place.place in
    let all = initial_values ss in
    let sort = c.state_sort-sort.result in
    let initial = c.initial_value.result.now in
    let next = initial-at ss k (option_map as_value initial) (as_sort sort) (number 0) c.initial_value.ensures c.state_sort-sort.ensures.sort in
    let within : k < length all = omega (arith, length-map ss (λ s. value_or s.init (zero_of s.sort)), c.state_count-place-end.ensures.states, c.loop-place-test.true) in
    c.in_ok-push_initial.ensures
    ∙ ap (λ (xs : List meaning.Value). xs ++ beginning (as_sort sort) initial ∷ []) c.loop-place.invariant
    ∙ ap (λ (x : meaning.Value). take k all ++ x ∷ []) (sym next)
    ∙ sym (take_more all k (number 0) within)

pub returns-clause-values : goal.returns-clause-values
returns-clause-values c =
    let ss = states_of (model_of c.args.model.now).top in
    let all = initial_values ss in
    c.loop-place.invariant ∙ take_all c.loop-place.place all (omega (arith, length-map ss (λ s. value_or s.init (zero_of s.sort)), c.state_count-place-end.ensures.states, c.loop-place-test.false))

pub returns-clause-sorted : goal.returns-clause-sorted
returns-clause-sorted c =
    let m = c.args.model.now in
    let ss = states_of (model_of m).top in
    let sorted = initial_sorts m.parts.terms.names m.parts.initial_values.items (sorted m.parts m.well_sorted).declared.states in
    subst (λ (xs : List meaning.Value). AreOfSorts (sorts_of_states ss) xs) (sym (returns-clause-values c)) sorted
