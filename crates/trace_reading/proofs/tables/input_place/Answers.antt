use Rattle.std.proofs.Common.{◌∙◌}
use Rattle.v_design.specs.Parts.{inputs_of}
use Rattle.v_design.specs.Seen.{parts_of}
use Rattle.trace_reading.proofs.Within.{within_place}
use Rattle.trace_reading.proofs.tables.input_place.Goals as goal

pub returns-clause-within : goal.returns-clause-within
returns-clause-within c =
    let names = c.args.names.now in
    within_place (inputs_of (parts_of names.design.now)) c.args.name.now c.copied.result
    (c.copied.ensures ∙ (c.get.ensures.value ∙ names.inputs_found c.args.name.now))
