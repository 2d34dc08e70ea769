use Rattle.std.proofs.Common.{◌<◌, ◌∙◌, length, sym, arith}
use Rattle.std.proofs.lemmas.List.{length-drop}
use Rattle.serde_json.specs.View.{view}
use Rattle.v_design.specs.Parts.{inputs_of}
use Rattle.v_design.specs.Seen.{parts_of}
use Rattle.trace_reading.specs.Fitting.{is_input_given}
use Rattle.trace_reading.proofs.Turns.{one_fails}
use Rattle.trace_reading.proofs.missing.missing_input.Goals as goal

pub returns-then-not-is_input_given : goal.returns-then-not-is_input_given
returns-then-not-is_input_given c =
    let d = c.args.design.now in
    let low : c.loop-place.place < length (inputs_of (parts_of d)) =
    omega (arith, c.loop-place-test.true, c.input_count-place-end.ensures, length-drop d.register_count d.terms.names) in
    one_fails (is_input_given (parts_of d) (view c.args.cycle.now)) (length (inputs_of (parts_of d))) c.loop-place.place low
    (sym c.is_input_given.ensures ∙ c.if-not-is_input_given.true)
