use Rattle.std.proofs.Common.{◌≡◌, ◌∙◌, length, refl, sym, ap, subst, arith}
use Rattle.std.proofs.lemmas.Option.{slice_get_read, slice_get_within}
use Rattle.std.proofs.lemmas.List.{length-map}
use Rattle.wb_values.specs.Value.{truth, Valuation}
use Rattle.refinement.specs.Obligation.{commit}
use Rattle.term_copies.proofs.Extending.{extended_trans}
use Rattle.ila_model.specs.Model.{model_of}
use Rattle.mapped_designs.specs.Mapped.{MappedInstruction}
use Rattle.mapped_designs.specs.View.{mapped_of, instruction_view}
use Rattle.mapped_designs.specs.Runs.{IsRestZero, Shows, ShowsAll}
use Rattle.run_terms.proofs.Values.{fits_before}
use Rattle.condition_terms.specs.Told.{Tells}
use Rattle.condition_terms.proofs.Forming.{IsTermOf-kept, Tells-kept, told_not, told_both}
use Rattle.fact_terms.specs.Shown.{run_of}
use Rattle.fact_terms.proofs.Growing.{ready_kept}
use Rattle.fact_terms.proofs.Rows.{some_same, mapped_at}
use Rattle.obligation_terms.specs.Open.{open_at}
use Rattle.obligation_terms.proofs.Holding.{EndsBefore, none_ends, one_ends, cover_told}
use Rattle.obligation_terms.proofs.Chaining.{ended_told}
use Rattle.obligation_terms.proofs.covers.put_cover.Goals as goal

pub index-requires : goal.index-requires
index-requires c =
    let e = mapped_of c.args.shared.now.mapped.now in
    let i = c.requires.end in
    omega (arith, slice_get_within e.instructions c.args.instruction i.0 i.1, length-map c.args.shared.now.mapped.now.instructions.items instruction_view)

pub loop-cycle-init : goal.loop-cycle-init
loop-cycle-init c =
    let h = c.args.shared.now in
    let m = model_of h.model.now in
    let e = mapped_of h.mapped.now in
    let n = length h.read.now in (
      c.in_ok-any.ensures.extended,
      c.in_ok-any.ensures.value.condition,
      λ p counts. none_ends c.in_ok-any.any.0 m e p c.args.instruction (run_of e n) c.in_ok-any.ensures.value,
      c.in_ok-any.ensures.value.condition,
      λ p t counts z. absurd (omega (arith, z)),
    )

pub shows_open-requires-clause-ready : goal.shows_open-requires-clause-ready
shows_open-requires-clause-ready c =
    let h = c.args.shared.now in
    let m = model_of h.model.now in
    let e = mapped_of h.mapped.now in
    let n = length h.read.now in
    ready_kept m e n h.read.now h.shown.now h.modelled.now c.loop-cycle.invariant.0 c.requires.ready

pub shows_open-requires-clause-place : goal.shows_open-requires-clause-place
shows_open-requires-clause-place c =
    let h = c.args.shared.now in
    let m = model_of h.model.now in
    let e = mapped_of h.mapped.now in
    let n = length h.read.now in
    let i = c.requires.end in
    omega (arith, slice_get_within e.instructions c.args.instruction i.0 i.1, c.requires.ready.sorted.instructions)

pub shows_open-requires-clause-cycle : goal.shows_open-requires-clause-cycle
shows_open-requires-clause-cycle c =
    let h = c.args.shared.now in
    let m = model_of h.model.now in
    let e = mapped_of h.mapped.now in
    let n = length h.read.now in
    let i = c.requires.end in
    let items = h.mapped.now.instructions.items in
    let b = slice_get_within e.instructions c.args.instruction i.0 i.1 in
    let at = mapped_at instruction_view items c.args.instruction c.index.result.now
    (slice_get_read items (length items) c.args.instruction c.index.result.now refl (omega (arith, b, length-map items instruction_view)) c.index.ensures) in
    let bound : c.index.result.now.bound ≡ n = ap (λ (x : MappedInstruction). x.bound) (some_same (instruction_view c.index.result.now) i.0 (sym at ∙ i.1)) ∙ i.2 in
    omega (arith, bound, c.loop-cycle-test.true)

pub shows_open-requires-clause-condition : goal.shows_open-requires-clause-condition
shows_open-requires-clause-condition c =
    c.loop-cycle.invariant.3

pub shows_open-requires-clause-told : goal.shows_open-requires-clause-told
shows_open-requires-clause-told c =
    c.loop-cycle.invariant.4

pub commits-commit-requires-clause-ready : goal.commits-commit-requires-clause-ready
commits-commit-requires-clause-ready c =
    let h = c.args.shared.now in
    let m = model_of h.model.now in
    let e = mapped_of h.mapped.now in
    let n = length h.read.now in
    (c.shows_open.new.terms, ready_kept m e n h.read.now h.shown.now h.modelled.now (extended_trans c.loop-cycle.invariant.0 c.in_ok-open.ensures.extended) c.requires.ready)

pub commits-commit-requires-clause-place : goal.commits-commit-requires-clause-place
commits-commit-requires-clause-place c =
    let h = c.args.shared.now in
    let m = model_of h.model.now in
    let e = mapped_of h.mapped.now in
    let n = length h.read.now in
    let i = c.requires.end in
    omega (arith, slice_get_within e.instructions c.args.instruction i.0 i.1, c.requires.ready.sorted.instructions)

pub commits-commit-requires-clause-cycle : goal.commits-commit-requires-clause-cycle
commits-commit-requires-clause-cycle c =
    let h = c.args.shared.now in
    let m = model_of h.model.now in
    let e = mapped_of h.mapped.now in
    let n = length h.read.now in
    let i = c.requires.end in
    let items = h.mapped.now.instructions.items in
    let b = slice_get_within e.instructions c.args.instruction i.0 i.1 in
    let at = mapped_at instruction_view items c.args.instruction c.index.result.now
    (slice_get_read items (length items) c.args.instruction c.index.result.now refl (omega (arith, b, length-map items instruction_view)) c.index.ensures) in
    let bound : c.index.result.now.bound ≡ n = ap (λ (x : MappedInstruction). x.bound) (some_same (instruction_view c.index.result.now) i.0 (sym at ∙ i.1)) ∙ i.2 in
    omega (arith, bound, c.loop-cycle-test.true)

pub both-requires-clause-left : goal.both-requires-clause-left
both-requires-clause-left c =
    c.in_ok-open.ensures.term

pub both-requires-clause-right : goal.both-requires-clause-right
both-requires-clause-right c =
    let h = c.args.shared.now in
    let m = model_of h.model.now in
    let e = mapped_of h.mapped.now in
    let n = length h.read.now in
    let ready = ready_kept m e n h.read.now h.shown.now h.modelled.now (extended_trans c.loop-cycle.invariant.0 c.in_ok-open.ensures.extended) c.requires.ready in
    (c.commits-commit.ensures c.shows_open.new.terms ready).condition

pub either-requires-clause-left : goal.either-requires-clause-left
either-requires-clause-left c =
    IsTermOf-kept c.loop-cycle.any.0 truth (extended_trans c.in_ok-open.ensures.extended c.in_ok-here.ensures.extended) c.loop-cycle.invariant.1

pub either-requires-clause-right : goal.either-requires-clause-right
either-requires-clause-right c =
    c.in_ok-here.ensures.value.condition

pub loop-cycle-preserved : goal.loop-cycle-preserved
loop-cycle-preserved c =
    let h = c.args.shared.now in
    let m = model_of h.model.now in
    let e = mapped_of h.mapped.now in
    let n = length h.read.now in
    let j = c.args.instruction in
    let t = c.loop-cycle.cycle in
    let k = c.shows_open.new.terms in
    let ready = ready_kept m e n h.read.now h.shown.now h.modelled.now (extended_trans c.loop-cycle.invariant.0 c.in_ok-open.ensures.extended) c.requires.ready in
    let here = extended_trans c.in_ok-open.ensures.extended c.in_ok-here.ensures.extended in
    let later = extended_trans c.in_ok-here.ensures.extended c.in_ok-any-2.ensures.extended in (
      extended_trans c.loop-cycle.invariant.0 (extended_trans here c.in_ok-any-2.ensures.extended),
      c.in_ok-any-2.ensures.value.condition,
      λ p counts.
          let O : Valuation → Type 0 = λ v. ShowsAll m e (run_of e n v) (open_at p j t) in
          let C : Valuation → Type 0 = λ v. Shows m e (run_of e n v) (commit j t) in
          let ended = ended_told c.in_ok-here.here.0 m e n p j t
          (told_both c.in_ok-here.here.0 c.in_ok-open.open.0 c.commits-commit.result.0 O C c.in_ok-here.ensures.extended (c.in_ok-open.ensures.told p counts) (c.commits-commit.ensures k ready)
          c.in_ok-here.ensures.value) in
          one_ends c.in_ok-any-2.any.0 c.loop-cycle.any.0 c.in_ok-here.here.0 t m e p j (run_of e n) here c.in_ok-any-2.ensures.extended (c.loop-cycle.invariant.2 p counts) ended
          c.in_ok-any-2.ensures.value,
      IsTermOf-kept c.in_ok-open.open.0 truth later c.in_ok-open.ensures.term,
      λ p i counts z.
          let same : t ≡ i = omega (arith, z) in
          subst (λ x. Tells c.either.new.terms c.in_ok-open.open.0 (λ v. ShowsAll m e (run_of e n v) (open_at p j x))) same
          (Tells-kept c.in_ok-open.open.0 (λ v. ShowsAll m e (run_of e n v) (open_at p j t)) later (c.in_ok-open.ensures.told p counts)),
    )

pub both-requires-2-clause-left : goal.both-requires-2-clause-left
both-requires-2-clause-left c =
    IsTermOf-kept c.args.rest.0 truth c.loop-cycle.invariant.0 c.requires.rest.condition

pub both-requires-2-clause-right : goal.both-requires-2-clause-right
both-requires-2-clause-right c =
    c.loop-cycle.invariant.1

pub negation-requires : goal.negation-requires
negation-requires c = c.in_ok-command.ensures.value.condition

pub returns-clause-term : goal.returns-clause-term
returns-clause-term c = c.in_ok-id.ensures.value.condition

pub returns-clause-means : goal.returns-clause-means
returns-clause-means c p counts =
    let h = c.args.shared.now in
    let m = model_of h.model.now in
    let e = mapped_of h.mapped.now in
    let n = length h.read.now in
    let i = c.requires.end in
    let j = c.args.instruction in
    let items = h.mapped.now.instructions.items in
    let b = slice_get_within e.instructions j i.0 i.1 in
    let at = mapped_at instruction_view items j c.index.result.now
    (slice_get_read items (length items) j c.index.result.now refl (omega (arith, b, length-map items instruction_view)) c.index.ensures) in
    let bound : c.index.result.now.bound ≡ i.0.bound = ap (λ (x : MappedInstruction). x.bound) (some_same (instruction_view c.index.result.now) i.0 (sym at ∙ i.1)) in
    let last : c.loop-cycle.cycle ≡ i.0.bound = omega (arith, bound, c.loop-cycle-test.false, c.loop-cycle.auto.cycle-end) in
    let R : Valuation → Type 0 = λ v. IsRestZero e.parts (run_of e n v).first in
    let E : Valuation → Type 0 = λ v. EndsBefore m e p j (run_of e n v) i.0.bound in
    let any = subst (λ k. Tells c.loop-cycle.terms c.loop-cycle.any.0 (λ v. EndsBefore m e p j (run_of e n v) k)) last (c.loop-cycle.invariant.2 p counts) in
    let command = told_both c.in_ok-command.command.0 c.args.rest.0 c.loop-cycle.any.0 R E c.in_ok-command.ensures.extended
    (Tells-kept c.args.rest.0 R c.loop-cycle.invariant.0 c.requires.rest) any c.in_ok-command.ensures.value in
    cover_told c.in_ok-id.id.0 c.in_ok-command.command.0 m e p n j i.0 i.1 (λ v f. fits_before v c.in_ok-id.ensures.extended f) command
    (told_not c.in_ok-id.id.0 c.in_ok-command.command.0 (λ v. R v × E v) c.in_ok-id.ensures.extended command c.in_ok-id.ensures.value)
