use Rattle.std.proofs.Common.{length, refl, arith}
use Rattle.std.proofs.lemmas.Option.{slice_get_read}
use Rattle.model_meaning.specs.Model.{Instruction, instructions_in}
use Rattle.model_meaning.specs.Instruction.{DecodesAt}
use Rattle.ila_model.specs.Model.{model_of}
use Rattle.mapped_designs.specs.View.{mapped_of}
use Rattle.mapped_designs.specs.Runs.{Shows}
use Rattle.refinement.specs.Obligation.{decoded}
use Rattle.condition_terms.proofs.Forming.{Tells-same}
use Rattle.fact_terms.specs.Shown.{run_of, first_state, first_inputs}
use Rattle.fact_terms.proofs.Rows.{there, some_where}
use Rattle.fact_terms.proofs.instructions.decodes.Goals as goal

pub returns : goal.returns
returns c g r =
    let h = c.args.shared.now in
    let m = model_of h.model.now in
    let e = mapped_of h.mapped.now in
    let n = length h.read.now in
    let j = c.args.place in
    let i = there (instructions_in m.top) j c.requires.place in
    let t = c.index.result.now in
    let told = (r.instructions j i.0 t i.1 (slice_get_read h.modelled.now.instructions.items (length h.modelled.now.instructions.items) j t refl (omega (arith, c.requires.place, r.counted)) c.index.ensures)).decode in
    Tells-same t.decode.0 (λ v. DecodesAt m (first_state m e n v) (first_inputs m e n v) i.0) (λ v. Shows m e (run_of e n v) (decoded j))
    (λ v f. some_where (instructions_in m.top) j i.0 (λ (x : Instruction). DecodesAt m (first_state m e n v) (first_inputs m e n v) x) i.1) told
