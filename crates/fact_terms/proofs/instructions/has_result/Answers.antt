use Rattle.std.proofs.Common.{◌≡◌, length, refl, sym, subst, arith}
use Rattle.std.proofs.lemmas.Option.{slice_get_read}
use Rattle.std.proofs.lemmas.List.{get_or_read_under}
use Rattle.wb_values.specs.Value.{truth, Valuation}
use Rattle.model_meaning.specs.Term.{val}
use Rattle.model_meaning.specs.Model.{states_of, instructions_in}
use Rattle.refinement.specs.Obligation.{ends}
use Rattle.wb_terms.specs.declared.nodes.TermId.{TermId}
use Rattle.wb_terms.specs.Graph.{tree}
use Rattle.term_copies.proofs.Extending.{extended_trans}
use Rattle.ila_model.specs.Model.{model_of}
use Rattle.mapped_designs.specs.View.{mapped_of}
use Rattle.mapped_designs.specs.Runs.{Shows}
use Rattle.condition_terms.specs.Told.{IsTermOf}
use Rattle.condition_terms.proofs.Forming.{IsTermOf-kept, Tells-kept, told_not, told_either}
use Rattle.fact_terms.specs.Shown.{run_of}
use Rattle.fact_terms.proofs.Rows.{there}
use Rattle.fact_terms.proofs.Claimed.{name_is, place_within, result_told}
use Rattle.fact_terms.proofs.instructions.has_result.Goals as goal

pub index-requires : goal.index-requires
index-requires c = omega (arith, c.requires.place, c.requires.ready.counted)

pub index-wanted-requires : goal.index-wanted-requires
index-wanted-requires c =
    let g = c.args.terms.now in
    let h = c.args.shared.now in
    let m = model_of h.model.now in
    let e = mapped_of h.mapped.now in
    let r = c.requires.ready in
    let ss = states_of m.top in
    let k = c.args.state.place in
    let d = there ss k (place_within ss k c.args.state.name.now c.requires.state) in
    let j = c.args.place in
    let i = there (instructions_in m.top) j c.requires.place in
    let t = c.index.result.now in
    let told = r.instructions j i.0 t i.1 (slice_get_read h.modelled.now.instructions.items (length h.modelled.now.instructions.items) j t refl (omega (arith, c.requires.place, r.counted)) c.index.ensures) in
    omega (arith, place_within ss k c.args.state.name.now c.requires.state, told.count)

pub state_at-shown-requires-clause-state : goal.state_at-shown-requires-clause-state
state_at-shown-requires-clause-state c = place_within (states_of (model_of c.args.shared.now.model.now).top) c.args.state.place c.args.state.name.now c.requires.state

pub equal-requires : goal.equal-requires
equal-requires c =
    let g = c.args.terms.now in
    let h = c.args.shared.now in
    let m = model_of h.model.now in
    let e = mapped_of h.mapped.now in
    let r = c.requires.ready in
    let ss = states_of m.top in
    let k = c.args.state.place in
    let d = there ss k (place_within ss k c.args.state.name.now c.requires.state) in
    let j = c.args.place in
    let i = there (instructions_in m.top) j c.requires.place in
    let t = c.index.result.now in
    let told = r.instructions j i.0 t i.1 (slice_get_read h.modelled.now.instructions.items (length h.modelled.now.instructions.items) j t refl (omega (arith, c.requires.place, r.counted)) c.index.ensures) in
    let w = c.index-wanted.result.now in
    let at = get_or_read_under t.results.items k (length t.results.items) w (record { 0 = 0 }) c.index-wanted.ensures (omega (arith, place_within ss k c.args.state.name.now c.requires.state, told.count)) refl in
    (d.0.sort, (c.state_at-shown.ensures g d.0 r d.1).of_sort, subst (λ (x : TermId). IsTermOf g x.0 d.0.sort) (sym at) (told.results k d.0 d.1))

pub negation-requires : goal.negation-requires
negation-requires c = IsTermOf-kept c.does_end-ends.result.0 truth c.in_ok-is_result.ensures.extended (c.does_end-ends.ensures c.args.terms.now c.requires.ready).condition

pub either-requires-clause-left : goal.either-requires-clause-left
either-requires-clause-left c = c.in_ok-no_end.ensures.value.condition

pub either-requires-clause-right : goal.either-requires-clause-right
either-requires-clause-right c = IsTermOf-kept c.in_ok-is_result.is_result.0 truth c.in_ok-no_end.ensures.extended c.in_ok-is_result.ensures.told.condition

pub returns-clause-told : goal.returns-clause-told
returns-clause-told c =
    let g = c.args.terms.now in
    let h = c.args.shared.now in
    let m = model_of h.model.now in
    let e = mapped_of h.mapped.now in
    let r = c.requires.ready in
    let ss = states_of m.top in
    let k = c.args.state.place in
    let d = there ss k (place_within ss k c.args.state.name.now c.requires.state) in
    let n = length h.read.now in
    let j = c.args.place in
    let i = there (instructions_in m.top) j c.requires.place in
    let t = c.index.result.now in
    let told = r.instructions j i.0 t i.1 (slice_get_read h.modelled.now.instructions.items (length h.modelled.now.instructions.items) j t refl (omega (arith, c.requires.place, r.counted)) c.index.ensures) in
    let w = c.index-wanted.result.now in
    let at = get_or_read_under t.results.items k (length t.results.items) w (record { 0 = 0 }) c.index-wanted.ensures (omega (arith, place_within ss k c.args.state.name.now c.requires.state, told.count)) refl in
    let x = c.state_at-shown.result.0 in
    let ended = c.does_end-ends.ensures g r in
    let E : Valuation → Type 0 = λ v. Shows m e (run_of e n v) (ends j) in
    let X : Valuation → Type 0 = λ v. val (tree g x) v ≡ val (tree g w.0) v in
    let first = c.in_ok-is_result.ensures.extended in
    let second = c.in_ok-no_end.ensures.extended in
    let third = c.in_ok-id.ensures.extended in
    let left = told_not c.in_ok-no_end.no_end.0 c.does_end-ends.result.0 E second (Tells-kept c.does_end-ends.result.0 E first ended) c.in_ok-no_end.ensures.value in
    let right = Tells-kept c.in_ok-is_result.is_result.0 X second c.in_ok-is_result.ensures.told in
    result_told c.in_ok-id.id.0 c.does_end-ends.result.0 x w.0 d.0.sort m e (run_of e n) c.args.cycle j i.0 d.0 c.args.state.name.now i.1
    (name_is ss k d.0 c.args.state.name.now d.1 c.requires.state) ended
    (told_either c.in_ok-id.id.0 c.in_ok-no_end.no_end.0 c.in_ok-is_result.is_result.0 (λ v. ¬ E v) X third left right c.in_ok-id.ensures.value)
    (extended_trans first (extended_trans second third)) (c.state_at-shown.ensures g d.0 r d.1)
    (λ v q f does. subst (λ (z : TermId). val (tree g z.0) v ≡ q d.0.state_name) (sym at) (told.values k d.0 v q d.1 f does))
