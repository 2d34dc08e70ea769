use Rattle.std.proofs.Common.{◌≡◌, ◌∙◌, Some, option_map, get_or, sym, ap, subst}
use Rattle.std.specs.Prelude.{slice_get}
use Rattle.wb_values.specs.Value.{number}
use Rattle.model_meaning.specs.Model.{states_of, StateDeclaration}
use Rattle.wb_terms.specs.Environment.{as_value}
use Rattle.shown_facts.specs.Values.{model_in, map_in, values_in}
use Rattle.shown_facts.specs.Noted.{IsSeenAt}
use Rattle.shown_facts.proofs.Telling.{either, noted}
use Rattle.shown_facts.proofs.Stating.{states_apart, place_within, within_values, value_at, shown_there, initial_told, initial_free}
use Rattle.shown_facts.proofs.states.has_initial.Goals as goal

pub initial_value-requires : goal.initial_value-requires
initial_value-requires c = place_within (states_of (model_in c.args.given.now).top) c.args.state.place c.args.state.name.now c.requires.state

pub is_value_at-requires : goal.is_value_at-requires
is_value_at-requires c =
    let g = c.args.given.now in
    let s = either g c.args.shown.now c.args.cycle c.requires.shown in
    let seen = subst (IsSeenAt (model_in g) (map_in g) (values_in g) s.0) (sym c.seen_at-seen.ensures) s.1 in
    within_values (model_in g) c.seen_at-seen.result.now.state c.values-there.result.now c.args.state.place c.args.state.name.now c.values-there.ensures seen.sorted c.requires.state

pub returns-in-Some : goal.returns-in-Some
returns-in-Some c near =
    let g = c.args.given.now in
    let m = model_in g in
    let t = c.args.cycle in
    let k = c.args.state.place in
    let n = c.args.state.name.now in
    let a = get_or c.values-there.result.now k (number 0) in
    let seen = subst (IsSeenAt m (map_in g) (values_in g) t) (sym c.seen_at-seen.ensures) (noted g c.args.shown.now t c.requires.shown near) in
    let within = within_values m c.seen_at-seen.result.now.state c.values-there.result.now k n c.values-there.ensures seen.sorted c.requires.state in
    let at = subst (λ ys. slice_get ys k ≡ Some a) c.values-there.ensures (value_at c.values-there.result.now k (number 0) within) in
    let stated = c.initial_value.ensures ∙ ap (λ o. Some (option_map as_value o)) c.in-Some.is in
    initial_told m (map_in g) (values_in g) t k n a (as_value c.in-Some.value) c.is_value_at.result (states_apart g.model.now) c.requires.state stated
    (shown_there m (map_in g) (values_in g) t c.seen_at-seen.result.now k n a (states_apart g.model.now) seen c.requires.state at) c.is_value_at.ensures

pub returns-in-None : goal.returns-in-None
returns-in-None c near =
    let g = c.args.given.now in
    let stated = c.initial_value.ensures ∙ ap (λ o. Some (option_map as_value o)) c.in-None.is in
    initial_free (model_in g) (map_in g) (values_in g) c.args.cycle c.args.state.place c.args.state.name.now (states_apart g.model.now) c.requires.state stated
