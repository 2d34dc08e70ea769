-- The term is false under a whole command.
use Rattle.std.proofs.Common.{◌≡◌, ◌∙◌, option_map, sym, ap, subst}
use Rattle.std.proofs.lemmas.Option.{slice_get-map}
use Rattle.ila_model.specs.Model.{model_of}
use Rattle.mapped_designs.specs.View.{mapped_of, instruction_view}
use Rattle.run_terms.specs.Names.{names_of_run}
use Rattle.mapped_designs.specs.Broken.{IsCommandBy}
use Rattle.obligation_terms.proofs.Standing.{still_ready}
use Rattle.obligation_check.specs.Found.{IsFinding}
use Rattle.obligation_check.proofs.Fixing.{false_where_same}
use Rattle.obligation_check.proofs.Verdicts.{covered_by, element_at}
use Rattle.obligation_check.proofs.deciding.find_cover.Goals as goal

pub cover-requires-clause-own : goal.cover-requires-clause-own
cover-requires-clause-own c =
    let items = c.args.mapped.now.instructions.items in
    let i = c.index.result.now in
    let place = element_at items c.args.instruction i c.requires.own c.index.ensures in
    (instruction_view i, slice_get-map instruction_view items c.args.instruction ∙ ap (option_map instruction_view) place, sym c.in_ok-prepare.ensures.cycles)

pub with_fixed-requires-clause-id : goal.with_fixed-requires-clause-id
with_fixed-requires-clause-id c = c.in_ok-asked.ensures.term.below

pub with_fixed-requires-clause-sort : goal.with_fixed-requires-clause-sort
with_fixed-requires-clause-sort c = c.in_ok-asked.ensures.term.sort

pub find-requires-clause-names : goal.find-requires-clause-names
find-requires-clause-names c =
    let e = mapped_of c.args.mapped.now in
    c.in_ok-id.ensures.extended.names ∙ (c.in_ok-asked.ensures.ready.names ∙ ap (names_of_run e.parts) (c.in_ok-asked.ensures.cycles ∙ c.in_ok-prepare.ensures.cycles))

pub find-requires-clause-id : goal.find-requires-clause-id
find-requires-clause-id c = c.in_ok-id.ensures.term.below

pub find-requires-clause-sort : goal.find-requires-clause-sort
find-requires-clause-sort c = c.in_ok-id.ensures.term.sort

pub returns-in_err-id-clause-ready : goal.returns-in_err-id-clause-ready
returns-in_err-id-clause-ready c =
    still_ready (model_of c.args.model.now) (mapped_of c.args.mapped.now) c.cover.new.self c.with_fixed.new.terms c.with_fixed.ensures.extended c.in_ok-asked.ensures.ready

pub returns-in_err-found-clause-ready : goal.returns-in_err-found-clause-ready
returns-in_err-found-clause-ready c =
    still_ready (model_of c.args.model.now) (mapped_of c.args.mapped.now) c.cover.new.self c.with_fixed.new.terms c.in_ok-id.ensures.extended c.in_ok-asked.ensures.ready

pub returns-clause-ready : goal.returns-clause-ready
returns-clause-ready c =
    still_ready (model_of c.args.model.now) (mapped_of c.args.mapped.now) c.cover.new.self c.with_fixed.new.terms c.in_ok-id.ensures.extended c.in_ok-asked.ensures.ready

pub returns-clause-cover : goal.returns-clause-cover
returns-clause-cover c =
    let m = model_of c.args.model.now in
    let e = mapped_of c.args.mapped.now in
    let t = c.cover.new.self in
    let g = c.with_fixed.new.terms in
    let items = c.args.mapped.now.instructions.items in
    let i = c.index.result.now in
    let place = element_at items c.args.instruction i c.requires.own c.index.ensures in
    let same : t.cycles ≡ i.bound = c.in_ok-asked.ensures.cycles ∙ c.in_ok-prepare.ensures.cycles in
    covered_by m e g c.in_ok-id.id.0 c.args.budget t.cycles c.args.instruction c.in_ok-found.found (c.in_ok-id.ensures.extended.names ∙ c.in_ok-asked.ensures.ready.names) c.name_count-names.ensures.distinct
    (instruction_view i, slice_get-map instruction_view items c.args.instruction ∙ ap (option_map instruction_view) place, sym same)
    (λ p counts. false_where_same c.in_ok-asked.asked.0 c.in_ok-id.id.0 e.parts t.cycles (λ x. IsCommandBy m e p x c.args.instruction) c.in_ok-id.ensures.extended c.in_ok-id.ensures.value (c.in_ok-asked.ensures.means p counts))
    (subst (λ n. IsFinding e.parts n g c.in_ok-id.id.0 c.args.budget c.in_ok-found.found) (sym same) c.in_ok-found.ensures.found)
