use Rattle.std.proofs.Common.{◌≡◌, Some, get_or, sym, subst}
use Rattle.std.specs.Prelude.{slice_get}
use Rattle.wb_values.specs.Value.{number}
use Rattle.ila_child.specs.Applied.{LeadsTo}
use Rattle.mapped_designs.specs.Runs.{worth_at, worth_of_registers_at}
use Rattle.shown_facts.specs.Values.{model_in, map_in, values_in}
use Rattle.shown_facts.specs.Noted.{IsSeenAt}
use Rattle.shown_facts.proofs.Telling.{either, noted}
use Rattle.shown_facts.proofs.Stating.{states_apart, within_values, value_at, value_there, shown_there}
use Rattle.shown_facts.proofs.Acting.{applied_there, result_told, result_free}
use Rattle.shown_facts.proofs.instructions.has_result.Goals as goal

pub is_same_at-requires-clause-place : goal.is_same_at-requires-clause-place
is_same_at-requires-clause-place c =
    let g = c.args.given.now in
    let s = either g c.args.shown.now c.args.cycle c.requires.shown in
    let seen = subst (IsSeenAt (model_in g) (map_in g) (values_in g) s.0) (sym c.seen_at-seen.ensures) s.1 in
    within_values (model_in g) c.seen_at-seen.result.now.state c.values-there.result.now c.args.state.place c.args.state.name.now c.values-there.ensures seen.sorted c.requires.state

pub is_same_at-requires-clause-there : goal.is_same_at-requires-clause-there
is_same_at-requires-clause-there c =
    let m = model_in c.args.given.now in
    let a = c.in_ok-found.ensures in
    let leads = subst (LeadsTo m a.i c.args.shown.now.first.state c.args.shown.now.inputs) c.in-Some.is a.leads in
    within_values m c.in-Some.reached c.values-wanted.result.now c.args.state.place c.args.state.name.now c.values-wanted.ensures leads.1 c.requires.state

pub returns-in-Some : goal.returns-in-Some
returns-in-Some c near =
    let g = c.args.given.now in
    let m = model_in g in
    let e = map_in g in
    let x = values_in g in
    let s = c.args.shown.now in
    let h = c.requires.shown in
    let t = c.args.cycle in
    let j = c.args.place in
    let k = c.args.state.place in
    let n = c.args.state.name.now in
    let apart = states_apart g.model.now in
    let a = get_or c.values-there.result.now k (number 0) in
    let b = get_or c.values-wanted.result.now k (number 0) in
    let found = applied_there m j s.first.state _ s.inputs _ c.in_ok-found.found h.first_is.state_is h.inputs_are c.in_ok-found.ensures in
    let seen = subst (IsSeenAt m e x t) (sym c.seen_at-seen.ensures) (noted g s t h near) in
    let leads = subst (LeadsTo m c.in_ok-found.ensures.i s.first.state s.inputs) c.in-Some.is c.in_ok-found.ensures.leads in
    let a_within = within_values m c.seen_at-seen.result.now.state c.values-there.result.now k n c.values-there.ensures seen.sorted c.requires.state in
    let b_within = within_values m c.in-Some.reached c.values-wanted.result.now k n c.values-wanted.ensures leads.1 c.requires.state in
    let a_at = subst (λ ys. slice_get ys k ≡ Some a) c.values-there.ensures (value_at c.values-there.result.now k (number 0) a_within) in
    let b_at = subst (λ ys. slice_get ys k ≡ Some b) c.values-wanted.ensures (value_at c.values-wanted.result.now k (number 0) b_within) in
    result_told m e x j t n c.in_ok-found.found c.in-Some.reached a b c.is_same_at.result found c.in-Some.is
    (shown_there m e x t c.seen_at-seen.result.now k n a apart seen c.requires.state a_at) (value_there m c.in-Some.reached k n b apart c.requires.state b_at) c.is_same_at.ensures

pub returns : goal.returns
returns c near =
    let g = c.args.given.now in
    let m = model_in g in
    let s = c.args.shown.now in
    let h = c.requires.shown in
    let found = applied_there m c.args.place s.first.state _ s.inputs _ c.in_ok-found.found h.first_is.state_is h.inputs_are c.in_ok-found.ensures in
    result_free m (map_in g) (values_in g) c.args.place c.args.cycle c.args.state.name.now c.in_ok-found.found found c.in-None.is
