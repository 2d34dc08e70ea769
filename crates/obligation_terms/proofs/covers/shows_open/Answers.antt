use Rattle.std.proofs.Common.{◌≡◌, ◌+◌, ◌-◌, length, arith}
use Rattle.wb_values.specs.Value.{truth, Valuation}
use Rattle.refinement.specs.Obligation.{commit, running_at}
use Rattle.term_copies.proofs.Extending.{extended_trans}
use Rattle.ila_model.specs.Model.{model_of}
use Rattle.mapped_designs.specs.View.{mapped_of}
use Rattle.mapped_designs.specs.Runs.{Shows, ShowsAll}
use Rattle.condition_terms.proofs.Forming.{IsTermOf-kept, Tells-kept, told_not, told_both}
use Rattle.fact_terms.specs.Shown.{run_of}
use Rattle.fact_terms.proofs.Growing.{ready_kept}
use Rattle.obligation_terms.specs.Open.{open_at}
use Rattle.obligation_terms.proofs.Holding.{numbers_of, are_numbers}
use Rattle.obligation_terms.proofs.Chaining.{started_open, later_open}
use Rattle.obligation_terms.proofs.covers.shows_open.Goals as goal

pub shows_hypotheses-requires-clause-told : goal.shows_hypotheses-requires-clause-told
shows_hypotheses-requires-clause-told c = (numbers_of c.args.shared.now.mapped.now, are_numbers c.args.shared.now.mapped.now, c.requires.place)

pub commits-commit-requires-clause-ready : goal.commits-commit-requires-clause-ready
commits-commit-requires-clause-ready c = (c.args.terms.now, c.requires.ready)

pub negation-requires : goal.negation-requires
negation-requires c = (c.commits-commit.ensures c.args.terms.now c.requires.ready).condition

pub both-requires-clause-left : goal.both-requires-clause-left
both-requires-clause-left c = IsTermOf-kept c.args.before.0 truth c.in_ok-open.ensures.extended c.requires.condition

pub both-requires-clause-right : goal.both-requires-clause-right
both-requires-clause-right c = c.in_ok-open.ensures.value.condition

pub shows_running-requires-clause-ready : goal.shows_running-requires-clause-ready
shows_running-requires-clause-ready c =
    let h = c.args.shared.now in
    ready_kept (model_of h.model.now) (mapped_of h.mapped.now) (length h.read.now) h.read.now h.shown.now h.modelled.now (extended_trans c.in_ok-open.ensures.extended c.in_ok-still.ensures.extended)
    c.requires.ready

pub both-requires-2-clause-left : goal.both-requires-2-clause-left
both-requires-2-clause-left c = IsTermOf-kept c.in_ok-still.still.0 truth c.in_ok-running.ensures.extended c.in_ok-still.ensures.value.condition

pub both-requires-2-clause-right : goal.both-requires-2-clause-right
both-requires-2-clause-right c = c.in_ok-running.ensures.term

pub returns-clause-term : goal.returns-clause-term
returns-clause-term c = c.in_ok-id.ensures.value.condition

pub returns-then-cycle-eq0-clause-told : goal.returns-then-cycle-eq0-clause-told
returns-then-cycle-eq0-clause-told c =
    let h = c.args.shared.now in
    started_open c.shows_hypotheses.result c.shows_hypotheses.new.terms (model_of h.model.now) (mapped_of h.mapped.now) (length h.read.now) c.args.instruction c.args.cycle c.if-cycle-eq0.true
    c.shows_hypotheses.ensures.told

pub returns-clause-told : goal.returns-clause-told
returns-clause-told c p counts =
    let h = c.args.shared.now in
    let m = model_of h.model.now in
    let e = mapped_of h.mapped.now in
    let n = length h.read.now in
    let j = c.args.instruction in
    let k = c.args.cycle - 1 in
    let next : c.args.cycle ≡ k + 1 = omega (arith, c.if-cycle-eq0.false) in
    let O : Valuation → Type 0 = λ v. ShowsAll m e (run_of e n v) (open_at p j k) in
    let C : Valuation → Type 0 = λ v. Shows m e (run_of e n v) (commit j k) in
    let R : Valuation → Type 0 = λ v. ShowsAll m e (run_of e n v) (running_at p c.args.cycle) in
    let not_yet = told_not c.in_ok-open.open.0 c.commits-commit.result.0 C c.in_ok-open.ensures.extended (c.commits-commit.ensures c.args.terms.now c.requires.ready) c.in_ok-open.ensures.value in
    let still = told_both c.in_ok-still.still.0 c.args.before.0 c.in_ok-open.open.0 O (λ v. ¬ C v) c.in_ok-still.ensures.extended
    (Tells-kept c.args.before.0 O c.in_ok-open.ensures.extended (c.requires.told p k counts next)) not_yet c.in_ok-still.ensures.value in
    let all = told_both c.in_ok-id.id.0 c.in_ok-still.still.0 c.in_ok-running.running.0 (λ v. O v × (¬ C v)) R c.in_ok-id.ensures.extended
    (Tells-kept c.in_ok-still.still.0 (λ v. O v × (¬ C v)) c.in_ok-running.ensures.extended still) (c.in_ok-running.ensures.told p counts) c.in_ok-id.ensures.value in
    later_open c.in_ok-id.id.0 m e n p j k c.args.cycle (omega (arith, next)) all
