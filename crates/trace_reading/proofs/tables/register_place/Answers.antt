use Rattle.std.proofs.Common.{◌∙◌}
use Rattle.v_design.specs.Parts.{registers_of}
use Rattle.v_design.specs.Seen.{parts_of}
use Rattle.trace_reading.proofs.Within.{within_place}
use Rattle.trace_reading.proofs.tables.register_place.Goals as goal

pub returns-clause-within : goal.returns-clause-within
returns-clause-within c =
    let names = c.args.names.now in
    within_place (registers_of (parts_of names.design.now)) c.args.name.now c.copied.result
    (c.copied.ensures ∙ (c.get.ensures.value ∙ names.registers_found c.args.name.now))
