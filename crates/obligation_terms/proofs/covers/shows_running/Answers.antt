use Rattle.std.proofs.Common.{◌≡◌, ◌<◌, ℕ, length, arith}
use Rattle.std.proofs.lemmas.List.{length-map}
use Rattle.wb_values.specs.Value.{truth, Valuation}
use Rattle.refinement.specs.Obligation.{reset_active, reset_inactive, assumed, start, running_at}
use Rattle.term_copies.proofs.Extending.{extended_trans}
use Rattle.ila_model.specs.Model.{model_of}
use Rattle.mapped_designs.specs.View.{mapped_of, number_of}
use Rattle.mapped_designs.specs.Runs.{Shows, ShowsAll}
use Rattle.condition_terms.proofs.Forming.{IsTermOf-kept, Tells-kept, Tells-same, told_not, told_both}
use Rattle.fact_terms.specs.Shown.{run_of}
use Rattle.fact_terms.proofs.Growing.{ready_kept}
use Rattle.obligation_terms.proofs.Chaining.{with_none, with_more, running_where}
use Rattle.obligation_terms.proofs.covers.shows_running.Goals as goal

pub is_reset_active-active-requires-clause-ready : goal.is_reset_active-active-requires-clause-ready
is_reset_active-active-requires-clause-ready c = (c.args.terms.now, c.requires.ready)

pub negation-requires : goal.negation-requires
negation-requires c = (c.is_reset_active-active.ensures c.args.terms.now c.requires.ready).condition

pub loop-place-init : goal.loop-place-init
loop-place-init c =
    let h = c.args.shared.now in
    let m = model_of h.model.now in
    let e = mapped_of h.mapped.now in
    let n = length h.read.now in
    let t = c.args.cycle in
    let g = c.args.terms.now in
    let active = c.is_reset_active-active.ensures g c.requires.ready in
    let no = told_not c.in_ok-all.all.0 c.is_reset_active-active.result.0 (λ v. Shows m e (run_of e n v) (reset_active t)) c.in_ok-all.ensures.extended active c.in_ok-all.ensures.value in
    (c.in_ok-all.ensures.extended, with_none c.in_ok-all.all.0 (λ v. Shows m e (run_of e n v) (reset_inactive t)) (λ i v. Shows m e (run_of e n v) (assumed i t)) no)

pub assumption-here-requires-clause-ready : goal.assumption-here-requires-clause-ready
assumption-here-requires-clause-ready c =
    let h = c.args.shared.now in
    (c.loop-place.terms, ready_kept (model_of h.model.now) (mapped_of h.mapped.now) (length h.read.now) h.read.now h.shown.now h.modelled.now c.loop-place.invariant.0 c.requires.ready)

pub assumption-here-requires-clause-place : goal.assumption-here-requires-clause-place
assumption-here-requires-clause-place c =
    let x = c.args.shared.now.mapped.now in
    omega (arith, c.loop-place-test.true, c.len-place-end.ensures, x.assume.ok, length-map x.assume.items number_of)

pub both-requires-clause-left : goal.both-requires-clause-left
both-requires-clause-left c = c.loop-place.invariant.1.condition

pub both-requires-clause-right : goal.both-requires-clause-right
both-requires-clause-right c =
    let h = c.args.shared.now in
    let ready = ready_kept (model_of h.model.now) (mapped_of h.mapped.now) (length h.read.now) h.read.now h.shown.now h.modelled.now c.loop-place.invariant.0 c.requires.ready in
    (c.assumption-here.ensures c.loop-place.terms ready).condition

pub loop-place-preserved : goal.loop-place-preserved
loop-place-preserved c =
    let h = c.args.shared.now in
    let m = model_of h.model.now in
    let e = mapped_of h.mapped.now in
    let n = length h.read.now in
    let t = c.args.cycle in
    let g = c.loop-place.terms in
    let ready = ready_kept m e n h.read.now h.shown.now h.modelled.now c.loop-place.invariant.0 c.requires.ready in (
      extended_trans c.loop-place.invariant.0 c.in_ok-all-2.ensures.extended,
      with_more c.in_ok-all-2.all.0 c.loop-place.all.0 c.assumption-here.result.0 c.loop-place.place (λ v. Shows m e (run_of e n v) (reset_inactive t)) (λ i v. Shows m e (run_of e n v) (assumed i t))
          c.in_ok-all-2.ensures.extended c.loop-place.invariant.1 (c.assumption-here.ensures g ready) c.in_ok-all-2.ensures.value,
    )

pub is_start-start-requires-clause-ready : goal.is_start-start-requires-clause-ready
is_start-start-requires-clause-ready c =
    let h = c.args.shared.now in
    (c.loop-place.terms, ready_kept (model_of h.model.now) (mapped_of h.mapped.now) (length h.read.now) h.read.now h.shown.now h.modelled.now c.loop-place.invariant.0 c.requires.ready)

pub negation-requires-2 : goal.negation-requires-2
negation-requires-2 c =
    let h = c.args.shared.now in
    let ready = ready_kept (model_of h.model.now) (mapped_of h.mapped.now) (length h.read.now) h.read.now h.shown.now h.modelled.now c.loop-place.invariant.0 c.requires.ready in
    (c.is_start-start.ensures c.loop-place.terms ready).condition

pub both-requires-2-clause-left : goal.both-requires-2-clause-left
both-requires-2-clause-left c = IsTermOf-kept c.loop-place.all.0 truth c.in_ok-quiet.ensures.extended c.loop-place.invariant.1.condition

pub both-requires-2-clause-right : goal.both-requires-2-clause-right
both-requires-2-clause-right c = c.in_ok-quiet.ensures.value.condition

pub returns-clause-extended : goal.returns-clause-extended
returns-clause-extended c = extended_trans c.loop-place.invariant.0 (extended_trans c.in_ok-quiet.ensures.extended c.in_ok-id.ensures.extended)

pub returns-clause-term : goal.returns-clause-term
returns-clause-term c = c.in_ok-id.ensures.value.condition

pub returns-clause-told : goal.returns-clause-told
returns-clause-told c p counts =
    let h = c.args.shared.now in
    let m = model_of h.model.now in
    let e = mapped_of h.mapped.now in
    let n = length h.read.now in
    let t = c.args.cycle in
    let x = h.mapped.now in
    let k = c.loop-place.place in
    let ready = ready_kept m e n h.read.now h.shown.now h.modelled.now c.loop-place.invariant.0 c.requires.ready in
    let S : Valuation → Type 0 = λ v. Shows m e (run_of e n v) (start t) in
    let A : Valuation → Type 0 = λ v. Shows m e (run_of e n v) (reset_inactive t) × ((i : ℕ) → i < k → Shows m e (run_of e n v) (assumed i t)) in
    let quiet = told_not c.in_ok-quiet.quiet.0 c.is_start-start.result.0 S c.in_ok-quiet.ensures.extended (c.is_start-start.ensures c.loop-place.terms ready) c.in_ok-quiet.ensures.value in
    let all = told_both c.in_ok-id.id.0 c.loop-place.all.0 c.in_ok-quiet.quiet.0 A (λ v. ¬ S v) c.in_ok-id.ensures.extended
    (Tells-kept c.loop-place.all.0 A c.in_ok-quiet.ensures.extended c.loop-place.invariant.1) quiet c.in_ok-id.ensures.value in
    let count : length p.assume ≡ k =
    omega (arith, c.loop-place-test.false, c.loop-place.auto.place-end, c.len-place-end.ensures, x.assume.ok, length-map x.assume.items number_of, counts.assume) in
    Tells-same c.in_ok-id.id.0 (λ v. A v × (¬ S v)) (λ v. ShowsAll m e (run_of e n v) (running_at p t)) (λ v f. running_where m e (run_of e n v) p t k count) all
