use Rattle.std.proofs.Common.{ap, sym, ◌∙◌, ◌<◌, length, Some, Option, ℕ, option_map, subst}
use Rattle.std.specs.Prelude.{IfSome}
use Rattle.ila_sim.specs.Names.{settable_of}
use Rattle.ila_sim.specs.Places.{called_at}
use Rattle.std.proofs.Common.{map}
use Rattle.ila_sim.proofs.Found.{called_there}
use Rattle.ila_sim.proofs.place.input_left_out.Goals as goal

pub returns-in-Some : goal.returns-in-Some
returns-in-Some c =
    let es = c.args.inputs.now.settables.now in
    let within : c.in-Some.place < length es = subst (λ (o : Option ℕ). IfSome o (λ k. k < length es)) c.in-Some.is c.in_ok-first_left_out.ensures.within in
    ap (λ n. Some n) (c.as_slice.ensures.value ∙ sym (called_there es c.in-Some.place c.index-inputs-place.result within))
    ∙ (ap (option_map (called_at (map settable_of es))) (sym c.in-Some.is) ∙ c.in_ok-first_left_out.ensures.called)
