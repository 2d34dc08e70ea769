use Rattle.shown_facts.specs.Values.{model_in}
use Rattle.shown_facts.proofs.Acting.{applied_there, decoded_told}
use Rattle.shown_facts.proofs.instructions.decodes.Goals as goal

pub returns : goal.returns
returns c =
    let m = model_in c.args.given.now in
    let s = c.args.shown.now in
    let h = c.requires.shown in
    decoded_told m c.args.place _ _ c.in_ok-found.found (applied_there m c.args.place s.first.state _ s.inputs _ c.in_ok-found.found h.first_is.state_is h.inputs_are c.in_ok-found.ensures)
