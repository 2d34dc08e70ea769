use Rattle.std.proofs.Common.{◌≡◌, ◌<◌, ◌∙◌, [], length, sym, ap, ap₂, arith}
use Rattle.std.proofs.lemmas.List.{length-take-le, get_or-take}
use Rattle.wb_values.specs.Value.{truth}
use Rattle.serde_json.specs.View.{view}
use Rattle.v_design.specs.Parts.{registers_of}
use Rattle.v_design.specs.Seen.{parts_of}
use Rattle.trace_reading.specs.Fitting.{register_in}
use Rattle.trace_reading.specs.Given.{value_given}
use Rattle.trace_reading.proofs.given.register_given.Goals as goal

pub returns : goal.returns
returns c =
    let d = c.args.design.now in
    let k = c.args.place in
    let long = length-take-le d.register_count d.terms.names d.counted in
    let low : k < d.register_count = omega (arith, c.requires, long) in
    let there = get_or-take d.register_count d.terms.names k ([], truth) low in
    c.in_ok-value.ensures
    ∙ ap₂ value_given (c.name_sort.ensures.sort ∙ ap (λ x. x.1) (sym there))
    (c.register_in-given.ensures ∙ ap (register_in (view c.args.file.now)) c.register_name.ensures)
