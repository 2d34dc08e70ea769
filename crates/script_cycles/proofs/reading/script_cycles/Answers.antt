use Rattle.std.proofs.Common.{sym, subst}
use Rattle.v_design.specs.Seen.{parts_of}
use Rattle.ila_sim.specs.Settables.{settables_view}
use Rattle.script_cycles.specs.Read.{IsReadAs}
use Rattle.script_cycles.specs.declared.reading.ScriptRead.TheVariants.{Refused}
use Rattle.script_cycles.proofs.Given.{cycles_of, refused_for}
use Rattle.script_cycles.proofs.reading.script_cycles.Goals as goal

pub returns-in-Ok-clause-read : goal.returns-in-Ok-clause-read
returns-in-Ok-clause-read c =
    let design = c.args.design.now in λ d meant.
    cycles_of d (parts_of design) meant design.counting design.words (settables_view c.in_ok-names.names) c.args.script.now c.in_ok-names.ensures
    c.in-Ok.script c.in_ok-cycles-in-Ok.cycles c.in-Ok.ensures.answer c.in-Ok.ensures.right c.in_ok-cycles-in-Ok.ensures.registers c.in_ok-cycles-in-Ok.ensures.inputs

pub returns-in-Err-Refused-clause-read : goal.returns-in-Err-Refused-clause-read
returns-in-Err-Refused-clause-read c =
    let design = c.args.design.now in
    let e = parts_of design in
    let bytes = c.args.script.now in λ d meant.
    subst (λ r. IsReadAs d e bytes (Refused r)) (sym c.in-Err-Refused.refusal-is)
    (refused_for d e meant design.counting design.words (settables_view c.in_ok-names.names) bytes c.in_ok-names.ensures c.in-Err-Refused.field-0 c.in-Err-Refused.refusal
    c.in-Err-Refused.field-0-is c.in-Err-Refused.ensures.answer c.in-Err-Refused.ensures.note)
