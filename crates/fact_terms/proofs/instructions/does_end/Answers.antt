use Rattle.std.proofs.Common.{length, refl, arith}
use Rattle.std.proofs.lemmas.Option.{slice_get_read}
use Rattle.wb_values.specs.Value.{Valuation}
use Rattle.model_meaning.specs.Model.{Instruction, instructions_in}
use Rattle.model_meaning.specs.Instruction.{Does}
use Rattle.ila_model.specs.Model.{model_of}
use Rattle.mapped_designs.specs.View.{mapped_of}
use Rattle.mapped_designs.specs.Runs.{Shows}
use Rattle.refinement.specs.Obligation.{ends}
use Rattle.condition_terms.proofs.Forming.{Tells-same}
use Rattle.fact_terms.specs.Shown.{run_of, first_state, first_inputs}
use Rattle.fact_terms.proofs.Rows.{there, some_where}
use Rattle.fact_terms.proofs.instructions.does_end.Goals as goal

pub returns : goal.returns
returns c g r =
    let h = c.args.shared.now in
    let m = model_of h.model.now in
    let e = mapped_of h.mapped.now in
    let n = length h.read.now in
    let j = c.args.place in
    let i = there (instructions_in m.top) j c.requires.place in
    let t = c.index.result.now in
    let told = (r.instructions j i.0 t i.1 (slice_get_read h.modelled.now.instructions.items (length h.modelled.now.instructions.items) j t refl (omega (arith, c.requires.place, r.counted)) c.index.ensures)).ends in
    Tells-same t.ends.0 (λ v. (q : Valuation) × Does m i.0 (first_state m e n v) (first_inputs m e n v) q) (λ v. Shows m e (run_of e n v) (ends j))
    (λ v f.
    let w = some_where (instructions_in m.top) j i.0 (λ (x : Instruction). (q : Valuation) × Does m x (first_state m e n v) (first_inputs m e n v) q) i.1 in (
      λ p. let z = w.0 p in (z.0, z.1, z.2.0, z.2.1),
      λ z. w.1 (z.0, z.1, (z.2, z.3)),
    ))
    told
