use Rattle.rtl_simulation.proofs.Endings.{ends}
use Rattle.rtl_simulation.proofs.simulation.run.Goals as goal

pub returns-in-Text : goal.returns-in-Text
returns-in-Text c d is accepted of_text =
    let cycles = c.an_accepted_design_has_cycles.ensures d accepted of_text in
    rw c.in-Text.is at (ends d c.args.script.now c.in_ok-text.field-0 accepted (c.in_ok-text.ensures.told d is cycles))

pub returns-in-Refused : goal.returns-in-Refused
returns-in-Refused c d is accepted of_text =
    let cycles = c.an_accepted_design_has_cycles.ensures d accepted of_text in
    rw c.in-Refused.is at (ends d c.args.script.now c.in_ok-text.field-0 accepted (c.in_ok-text.ensures.told d is cycles))
