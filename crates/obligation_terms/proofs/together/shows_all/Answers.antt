use Rattle.std.proofs.Common.{length, get_or, arith}
use Rattle.std.proofs.lemmas.Option.{slice_get-get_or}
use Rattle.wb_values.specs.Value.{truth}
use Rattle.term_copies.proofs.Extending.{extended_trans}
use Rattle.ila_model.specs.Model.{model_of}
use Rattle.mapped_designs.specs.View.{mapped_of}
use Rattle.condition_terms.proofs.Forming.{IsTermOf-kept}
use Rattle.condition_terms.proofs.Comparing.{none_alike}
use Rattle.obligation_lists.specs.Within.{IsFactOf}
use Rattle.obligation_lists.specs.declared.claims.Fact.TheVariants.{ResetActive}
use Rattle.fact_terms.specs.Shown.{run_of}
use Rattle.fact_terms.proofs.Growing.{ShowsAt, ready_kept, each_at, all_told, one_more_shown}
use Rattle.obligation_terms.proofs.together.shows_all.Goals as goal

pub loop-place-init : goal.loop-place-init
loop-place-init c =
    let h = c.args.shared.now in
    let m = model_of h.model.now in
    let e = mapped_of h.mapped.now in (
      c.in_ok-all.ensures.extended,
      none_alike c.in_ok-all.all.0 (λ k v. ShowsAt m e (run_of e (length h.read.now)) c.args.facts.now k v) c.in_ok-all.ensures.value,
    )

pub shows-requires-clause-ready : goal.shows-requires-clause-ready
shows-requires-clause-ready c =
    let h = c.args.shared.now in
    ready_kept (model_of h.model.now) (mapped_of h.mapped.now) (length h.read.now) h.read.now h.shown.now h.modelled.now c.loop-place.invariant.0 c.requires.ready

pub shows-requires-clause-told : goal.shows-requires-clause-told
shows-requires-clause-told c =
    let h = c.args.shared.now in
    let t = c.requires.told in
    let fs = c.args.facts.now in
    let k = c.loop-place.place in
    let f = get_or fs k (ResetActive 0) in
    let at = slice_get-get_or fs k (ResetActive 0) c.loop-place-test.true in
    record { numbers = t.numbers; counted = t.counted; fact = each_at (IsFactOf (model_of h.model.now) t.numbers (length h.read.now)) fs k f t.facts at }

pub both-requires-clause-left : goal.both-requires-clause-left
both-requires-clause-left c = IsTermOf-kept c.loop-place.all.0 truth c.in_ok-here.ensures.extended c.loop-place.invariant.1.condition

pub both-requires-clause-right : goal.both-requires-clause-right
both-requires-clause-right c = c.in_ok-here.ensures.told.condition

pub loop-place-preserved : goal.loop-place-preserved
loop-place-preserved c =
    let h = c.args.shared.now in
    let e = mapped_of h.mapped.now in
    let fs = c.args.facts.now in
    let k = c.loop-place.place in
    let f = get_or fs k (ResetActive 0) in
    let at = slice_get-get_or fs k (ResetActive 0) c.loop-place-test.true in (
      extended_trans c.loop-place.invariant.0 (extended_trans c.in_ok-here.ensures.extended c.in_ok-all-2.ensures.extended),
      one_more_shown c.loop-place.terms c.shows.new.terms c.both.new.terms c.loop-place.all.0 c.in_ok-here.here.0 c.in_ok-all-2.all.0 k (model_of h.model.now) e
          (run_of e (length h.read.now)) fs f at c.in_ok-here.ensures.extended c.in_ok-all-2.ensures.extended c.loop-place.invariant.1 c.in_ok-here.ensures.told c.in_ok-all-2.ensures.value,
    )

pub returns-clause-extended : goal.returns-clause-extended
returns-clause-extended c = c.loop-place.invariant.0

pub returns-clause-told : goal.returns-clause-told
returns-clause-told c =
    let h = c.args.shared.now in
    let e = mapped_of h.mapped.now in
    all_told c.loop-place.all.0 c.loop-place.place (model_of h.model.now) e (run_of e (length h.read.now)) c.args.facts.now (omega (arith, c.loop-place-test.false)) c.loop-place.invariant.1
