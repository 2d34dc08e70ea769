use Rattle.std.proofs.Common.{◌<◌, ◌∙◌, length, sym, arith}
use Rattle.std.proofs.lemmas.List.{length-take-le}
use Rattle.serde_json.specs.View.{view}
use Rattle.v_design.specs.Parts.{registers_of}
use Rattle.v_design.specs.Seen.{parts_of}
use Rattle.trace_reading.specs.Fitting.{is_register_given}
use Rattle.trace_reading.proofs.Turns.{one_fails}
use Rattle.trace_reading.proofs.missing.missing_register.Goals as goal

pub returns-then-not-is_register_given : goal.returns-then-not-is_register_given
returns-then-not-is_register_given c =
    let d = c.args.design.now in
    let low : c.loop-place.place < length (registers_of (parts_of d)) =
    omega (arith, c.loop-place-test.true, c.register_count-place-end.ensures, length-take-le d.register_count d.terms.names d.counted) in
    one_fails (is_register_given (parts_of d) (view c.args.file.now)) (length (registers_of (parts_of d))) c.loop-place.place low
    (sym c.is_register_given.ensures ∙ c.if-not-is_register_given.true)
