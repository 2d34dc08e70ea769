-- The term is false where the obligation is broken.
use Rattle.std.proofs.Common.{◌≡◌, ◌∙◌, sym, ap, subst}
use Rattle.ila_model.specs.Model.{model_of}
use Rattle.mapped_designs.specs.View.{mapped_of}
use Rattle.run_terms.specs.Names.{names_of_run}
use Rattle.mapped_designs.specs.Broken.{BreaksObligation}
use Rattle.obligation_lists.specs.Claims.{obligation_of}
use Rattle.obligation_terms.proofs.Standing.{still_ready}
use Rattle.obligation_check.specs.Found.{IsFinding}
use Rattle.obligation_check.proofs.Fixing.{false_where_same}
use Rattle.obligation_check.proofs.Verdicts.{found_by}
use Rattle.obligation_check.proofs.deciding.find_obligation.Goals as goal

pub with_fixed-requires-clause-id : goal.with_fixed-requires-clause-id
with_fixed-requires-clause-id c = c.in_ok-asked.ensures.term.below

pub with_fixed-requires-clause-sort : goal.with_fixed-requires-clause-sort
with_fixed-requires-clause-sort c = c.in_ok-asked.ensures.term.sort

pub find-requires-clause-names : goal.find-requires-clause-names
find-requires-clause-names c =
    let e = mapped_of c.args.mapped.now in
    c.in_ok-id.ensures.extended.names ∙ (c.in_ok-asked.ensures.ready.names ∙ ap (names_of_run e.parts) (c.in_ok-asked.ensures.cycles ∙ c.in_ok-prepare.ensures.cycles))

pub find-requires-clause-id : goal.find-requires-clause-id
find-requires-clause-id c = c.in_ok-id.ensures.term.below

pub find-requires-clause-sort : goal.find-requires-clause-sort
find-requires-clause-sort c = c.in_ok-id.ensures.term.sort

pub returns-in_err-id-clause-ready : goal.returns-in_err-id-clause-ready
returns-in_err-id-clause-ready c =
    still_ready (model_of c.args.model.now) (mapped_of c.args.mapped.now) c.obligation.new.self c.with_fixed.new.terms c.with_fixed.ensures.extended c.in_ok-asked.ensures.ready

pub returns-in_err-found-clause-ready : goal.returns-in_err-found-clause-ready
returns-in_err-found-clause-ready c =
    still_ready (model_of c.args.model.now) (mapped_of c.args.mapped.now) c.obligation.new.self c.with_fixed.new.terms c.in_ok-id.ensures.extended c.in_ok-asked.ensures.ready

pub returns-clause-ready : goal.returns-clause-ready
returns-clause-ready c =
    still_ready (model_of c.args.model.now) (mapped_of c.args.mapped.now) c.obligation.new.self c.with_fixed.new.terms c.in_ok-id.ensures.extended c.in_ok-asked.ensures.ready

pub returns-clause-found : goal.returns-clause-found
returns-clause-found c =
    let m = model_of c.args.model.now in
    let e = mapped_of c.args.mapped.now in
    let t = c.obligation.new.self in
    let g = c.with_fixed.new.terms in
    let o = c.args.obligation.now in
    let same : t.cycles ≡ o.cycles = c.in_ok-asked.ensures.cycles ∙ c.in_ok-prepare.ensures.cycles in
    found_by m e g c.in_ok-id.id.0 c.args.budget t.cycles o c.in_ok-found.found (c.in_ok-id.ensures.extended.names ∙ c.in_ok-asked.ensures.ready.names) c.name_count-names.ensures.distinct
    (sym same)
    (λ p counts resets. false_where_same c.in_ok-asked.asked.0 c.in_ok-id.id.0 e.parts t.cycles (λ x. BreaksObligation m e x (obligation_of p o)) c.in_ok-id.ensures.extended c.in_ok-id.ensures.value
    (c.in_ok-asked.ensures.means p counts resets))
    (subst (λ n. IsFinding e.parts n g c.in_ok-id.id.0 c.args.budget c.in_ok-found.found) (sym same) c.in_ok-found.ensures.found)
