use Rattle.std.proofs.Common.{◌++◌, map, length, refl, arith}
use Rattle.std.specs.Prelude.{IsTrue}
use Rattle.std.proofs.lemmas.Option.{slice_get_read}
use Rattle.std.proofs.lemmas.List.{length-map}
use Rattle.wb_values.specs.Value.{truth}
use Rattle.v_design.specs.Parts.{is_term_of}
use Rattle.ila_model.specs.Model.{model_of}
use Rattle.mapped_designs.specs.Mapped.{MappedInstruction}
use Rattle.mapped_designs.specs.View.{mapped_of, instruction_view}
use Rattle.mapped_designs.specs.Runs.{Shows, HoldsAt, worth_at}
use Rattle.refinement.specs.Obligation.{commit}
use Rattle.run_terms.proofs.Copied.{is_term}
use Rattle.condition_terms.proofs.Forming.{Tells-same}
use Rattle.fact_terms.specs.Shown.{run_of}
use Rattle.fact_terms.proofs.Rows.{told_shown, some_where, mapped_at, among_third, without_two}
use Rattle.fact_terms.proofs.instructions.commits.Goals as goal

pub read_at-requires-clause-id : goal.read_at-requires-clause-id
read_at-requires-clause-id c =
    let h = c.args.shared.now in
    let e = mapped_of h.mapped.now in
    let r = c.requires.ready.1 in
    let items = h.mapped.now.instructions.items in
    let i = c.index.result.now in
    let at = mapped_at instruction_view items c.args.place i (slice_get_read items (length items) c.args.place i refl (omega (arith, c.requires.place, r.sorted.instructions, length-map items instruction_view)) c.index.ensures) in
    (is_term e.parts.graph truth i.commit.0 (among_third (λ id. IsTrue (is_term_of e.parts.graph truth id)) e.assume e.invariants (map (λ (x : MappedInstruction). x.commit) e.instructions) c.args.place i.commit.0
    (without_two (λ k. IsTrue (is_term_of e.parts.graph truth k)) e.reset e.start (e.assume ++ (e.invariants ++ map (λ (x : MappedInstruction). x.commit) e.instructions)) r.sorted.conditions) (mapped_at (λ (x : MappedInstruction). x.commit) e.instructions c.args.place (instruction_view i) at))).below

pub returns : goal.returns
returns c g r =
    let h = c.args.shared.now in
    let m = model_of h.model.now in
    let e = mapped_of h.mapped.now in
    let n = length h.read.now in
    let items = h.mapped.now.instructions.items in
    let i = c.index.result.now in
    let at = mapped_at instruction_view items c.args.place i (slice_get_read items (length items) c.args.place i refl (omega (arith, c.requires.place, r.sorted.instructions, length-map items instruction_view)) c.index.ensures) in
    let term = among_third (λ id. IsTrue (is_term_of e.parts.graph truth id)) e.assume e.invariants (map (λ (x : MappedInstruction). x.commit) e.instructions) c.args.place i.commit.0
    (without_two (λ k. IsTrue (is_term_of e.parts.graph truth k)) e.reset e.start (e.assume ++ (e.invariants ++ map (λ (x : MappedInstruction). x.commit) e.instructions)) r.sorted.conditions) (mapped_at (λ (x : MappedInstruction). x.commit) e.instructions c.args.place (instruction_view i) at) in
    Tells-same c.read_at.result.0 (λ v. HoldsAt e (run_of e n v) c.args.cycle i.commit.0) (λ v. Shows m e (run_of e n v) (commit c.args.place c.args.cycle))
    (λ v f. some_where e.instructions c.args.place (instruction_view i) (λ (x : MappedInstruction). HoldsAt e (run_of e n v) c.args.cycle x.commit) at)
    (told_shown c.read_at.result.0 (λ v. worth_at e.parts (run_of e n v) c.args.cycle i.commit.0) (c.read_at.ensures g truth r term))
