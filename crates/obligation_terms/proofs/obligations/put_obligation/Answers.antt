use Rattle.std.proofs.Common.{length, subst}
use Rattle.wb_values.specs.Value.{truth, Valuation}
use Rattle.term_copies.proofs.Extending.{extended_trans}
use Rattle.ila_model.specs.Model.{model_of}
use Rattle.mapped_designs.specs.View.{mapped_of}
use Rattle.mapped_designs.specs.Runs.{IsRestZero, Shows, ShowsAll}
use Rattle.run_terms.proofs.Values.{fits_before}
use Rattle.condition_terms.proofs.Forming.{IsTermOf-kept, Tells-kept, told_not, told_both, told_either}
use Rattle.obligation_lists.specs.Claims.{obligation_of, hypotheses_of, fact_of}
use Rattle.obligation_lists.specs.Within.{AreHypothesesOf, IsFactOf}
use Rattle.fact_terms.specs.Shown.{run_of}
use Rattle.fact_terms.proofs.Growing.{ready_kept}
use Rattle.obligation_terms.proofs.Holding.{obligation_told}
use Rattle.obligation_terms.proofs.obligations.put_obligation.Goals as goal

pub shows_hypotheses-requires-clause-told : goal.shows_hypotheses-requires-clause-told
shows_hypotheses-requires-clause-told c =
    let s = c.requires.stated in
    (s.0, s.1, subst (λ n. AreHypothesesOf (model_of c.args.shared.now.model.now) s.0 n c.args.obligation.now.hypotheses) c.requires.cycles s.2.0)

pub both-requires-clause-left : goal.both-requires-clause-left
both-requires-clause-left c = IsTermOf-kept c.args.rest.0 truth c.in_ok-given.ensures.extended c.requires.rest.condition

pub both-requires-clause-right : goal.both-requires-clause-right
both-requires-clause-right c = c.in_ok-given.ensures.term

pub shows-requires-clause-ready : goal.shows-requires-clause-ready
shows-requires-clause-ready c =
    let h = c.args.shared.now in
    let m = model_of h.model.now in
    let e = mapped_of h.mapped.now in
    let n = length h.read.now in
    ready_kept m e n h.read.now h.shown.now h.modelled.now (extended_trans c.in_ok-given.ensures.extended c.in_ok-premises.ensures.extended) c.requires.ready

pub shows-requires-clause-told : goal.shows-requires-clause-told
shows-requires-clause-told c =
    let s = c.requires.stated in
    record { numbers = s.0; counted = s.1; fact = subst (λ n. IsFactOf (model_of c.args.shared.now.model.now) s.0 n c.args.obligation.now.claim) c.requires.cycles s.2.1 }

pub negation-requires : goal.negation-requires
negation-requires c = IsTermOf-kept c.in_ok-premises.premises.0 truth c.in_ok-claim.ensures.extended c.in_ok-premises.ensures.value.condition

pub either-requires-clause-left : goal.either-requires-clause-left
either-requires-clause-left c = c.in_ok-outside.ensures.value.condition

pub either-requires-clause-right : goal.either-requires-clause-right
either-requires-clause-right c = IsTermOf-kept c.in_ok-claim.claim.0 truth c.in_ok-outside.ensures.extended c.in_ok-claim.ensures.told.condition

pub returns-clause-term : goal.returns-clause-term
returns-clause-term c = c.in_ok-id.ensures.value.condition

pub returns-clause-means : goal.returns-clause-means
returns-clause-means c p counts resets =
    let h = c.args.shared.now in
    let m = model_of h.model.now in
    let e = mapped_of h.mapped.now in
    let n = length h.read.now in
    let o = c.args.obligation.now in
    let R : Valuation → Type 0 = λ v. IsRestZero e.parts (run_of e n v).first in
    let H : Valuation → Type 0 = λ v. ShowsAll m e (run_of e n v) (hypotheses_of p o.hypotheses) in
    let S : Valuation → Type 0 = λ v. Shows m e (run_of e n v) (fact_of o.claim) in
    let P : Valuation → Type 0 = λ v. R v × H v in
    let premises = told_both c.in_ok-premises.premises.0 c.args.rest.0 c.in_ok-given.given.0 R H c.in_ok-premises.ensures.extended
    (Tells-kept c.args.rest.0 R c.in_ok-given.ensures.extended c.requires.rest) (c.in_ok-given.ensures.told p counts resets) c.in_ok-premises.ensures.value in
    let outside = told_not c.in_ok-outside.outside.0 c.in_ok-premises.premises.0 P c.in_ok-outside.ensures.extended
    (Tells-kept c.in_ok-premises.premises.0 P c.in_ok-claim.ensures.extended premises) c.in_ok-outside.ensures.value in
    obligation_told c.in_ok-id.id.0 c.in_ok-premises.premises.0 m e n (obligation_of p o)
    (λ v f. fits_before v (extended_trans c.in_ok-claim.ensures.extended (extended_trans c.in_ok-outside.ensures.extended c.in_ok-id.ensures.extended)) f) premises
    (told_either c.in_ok-id.id.0 c.in_ok-outside.outside.0 c.in_ok-claim.claim.0 (λ v. ¬ P v) S c.in_ok-id.ensures.extended outside
    (Tells-kept c.in_ok-claim.claim.0 S c.in_ok-outside.ensures.extended c.in_ok-claim.ensures.told) c.in_ok-id.ensures.value)
