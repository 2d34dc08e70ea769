use Rattle.std.proofs.Common.{◌++◌, map, length, arith}
use Rattle.std.specs.Prelude.{IsTrue}
use Rattle.std.proofs.lemmas.List.{length-map}
use Rattle.wb_values.specs.Value.{truth, as_truth}
use Rattle.v_design.specs.Parts.{is_term_of}
use Rattle.ila_model.specs.Model.{model_of}
use Rattle.mapped_designs.specs.Mapped.{MappedInstruction}
use Rattle.mapped_designs.specs.View.{mapped_of, number_of}
use Rattle.mapped_designs.specs.Runs.{Shows, worth_of_registers_at}
use Rattle.refinement.specs.Obligation.{invariant}
use Rattle.run_terms.proofs.Copied.{is_term}
use Rattle.condition_terms.proofs.Forming.{Tells-same}
use Rattle.fact_terms.specs.Shown.{run_of}
use Rattle.fact_terms.proofs.Rows.{told_shown, each_where, id_there, among_second, without_two}
use Rattle.fact_terms.proofs.facts.holds_invariant.Goals as goal

pub shown_at-requires-clause-id : goal.shown_at-requires-clause-id
shown_at-requires-clause-id c =
    let h = c.args.shared.now in
    let e = mapped_of h.mapped.now in
    let r = c.requires.ready.1 in
    let items = h.mapped.now.invariants.items in
    let id = c.index.result.now in
    let at = id_there items c.args.place id (omega (arith, c.requires.place, length-map items number_of)) c.index.ensures in
    (is_term e.parts.graph truth id.0 (among_second (λ k. IsTrue (is_term_of e.parts.graph truth k)) e.assume e.invariants (map (λ (x : MappedInstruction). x.commit) e.instructions) c.args.place id.0
    (without_two (λ k. IsTrue (is_term_of e.parts.graph truth k)) e.reset e.start (e.assume ++ (e.invariants ++ map (λ (x : MappedInstruction). x.commit) e.instructions)) r.sorted.conditions) at)).below

pub returns : goal.returns
returns c g r =
    let h = c.args.shared.now in
    let m = model_of h.model.now in
    let e = mapped_of h.mapped.now in
    let n = length h.read.now in
    let items = h.mapped.now.invariants.items in
    let id = c.index.result.now in
    let at = id_there items c.args.place id (omega (arith, c.requires.place, length-map items number_of)) c.index.ensures in
    let term = among_second (λ k. IsTrue (is_term_of e.parts.graph truth k)) e.assume e.invariants (map (λ (x : MappedInstruction). x.commit) e.instructions) c.args.place id.0 (without_two (λ k. IsTrue (is_term_of e.parts.graph truth k)) e.reset e.start (e.assume ++ (e.invariants ++ map (λ (x : MappedInstruction). x.commit) e.instructions)) r.sorted.conditions) at in
    Tells-same c.shown_at.result.0 (λ v. IsTrue (as_truth (worth_of_registers_at e.parts (run_of e n v) c.args.cycle id.0))) (λ v. Shows m e (run_of e n v) (invariant c.args.place c.args.cycle))
    (λ v f. each_where e.invariants c.args.place id.0 (λ k. IsTrue (as_truth (worth_of_registers_at e.parts (run_of e n v) c.args.cycle k))) at)
    (told_shown c.shown_at.result.0 (λ v. worth_of_registers_at e.parts (run_of e n v) c.args.cycle id.0) (c.shown_at.ensures g truth r term))
