use Rattle.std.proofs.Common.{◌∙◌, ap, sym, refl}
use Rattle.std.proofs.lemmas.Bool.{false≢true}
use Rattle.std.specs.Prelude.{is_some}
use Rattle.map_reading.proofs.Flaws.{mismatch_told}
use Rattle.map_reading.proofs.expressions.width_mismatch.Goals as goal

pub returns-in-Some : goal.returns-in-Some
returns-in-Some c = λ k p h.
    let told = mismatch_told k p c.args.expressions.now c.args.known.now h c.first_mismatch.result c.mismatches_are_width_mismatches.ensures c.first_mismatch.ensures in
    ((λ _. told.1 (ap is_some c.in-Some.is)), (λ _. refl))

pub returns-in-None : goal.returns-in-None
returns-in-None c = λ k p h.
    let told = mismatch_told k p c.args.expressions.now c.args.known.now h c.first_mismatch.result c.mismatches_are_width_mismatches.ensures c.first_mismatch.ensures in
    ((λ t. absurd (false≢true t)), (λ differs. sym (ap is_some c.in-None.is) ∙ told.0 differs))
